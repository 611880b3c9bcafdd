-- Turns that are left where the history left them.
use Rattle.std.proofs.Common.{◌≡◌, ◌∙◌, ◌++◌, ◌∷◌, [], ℕ, Bool, true, false, cond, List, refl, sym, ap, subst}
use Rattle.std.specs.Option.{IfSome, IsSome, option_and_then, option_map}
use Rattle.std.specs.Prelude.{Option, None, Some, is_some}
use Rattle.ahead_settling.specs.declared.leaving.Leave.{Leave}
use Rattle.ahead_settling.specs.declared.leaving.Settling.{Settling}
use Rattle.ahead_settling.specs.declared.leaving.StillAhead.{StillAhead}
use Rattle.ahead_settling.specs.Leaving.{CanLeave, CanSettle, HasLeft, IsLeft, IsLevel, IsMarkedLeft, LeavesAs, LevelUnless, mark_so, root_in}
use Rattle.serial_model.specs.declared.entry.Entry.{Entry}
use Rattle.serial_model.specs.declared.entry.Entry.TheVariants.{Run}
use Rattle.serial_model.specs.declared.request.Request.{Request}
use Rattle.shared_world.proofs.Leads.{beside-unit}
use Rattle.shared_world.proofs.Live.{unit-piece}
use Rattle.shared_world.specs.Ahead.{Ahead}
use Rattle.shared_world.specs.declared.given.Given.{Given}
use Rattle.shared_world.specs.declared.given.Given.TheVariants as given
use Rattle.shared_world.specs.rows.Leading.{IsChanged, LeadSettles, beside_left, leads_on, left_after, mark_left}
use Rattle.shared_world.specs.Shared.{Shared, finished_by, unit_state}
use Rattle.shared_world.specs.Stands.{IsMachine}
use Rattle.task_fork_join.specs.Attempt.{Attempt}
use Rattle.unit_table.specs.Board.{Board, CanWait, HasPlace, IsUnlent, SameClaims, piece_at, unit_at}
use Rattle.unit_table.specs.declared.mark.Mark.{Mark}
use Rattle.unit_table.specs.declared.piece.Piece.{Piece}
use Rattle.unit_table.specs.declared.piece.Piece.TheVariants as piece
use Rattle.unit_table.specs.declared.unit.Unit.{Unit}
use Rattle.unit_table.specs.Piece.{beside, marked, says_dropped, says_finished, unit_in, woken}
use Rattle.turns_ahead.specs.declared.turn_ahead.Left.{Left}
use Rattle.turns_ahead.specs.Leading.{AreAsked, HasSettled, IsLeftNext, Leading, ahead_of, first_asked}
use Rattle.value_core.proofs.NamedLaws.{named-here, named-with_named, same_name-equal, same_name-itself}
use Rattle.value_core.proofs.NamedViews.{named-each_as, view_found}
use Rattle.value_core.proofs.NameMaps.{lookup_is_named}
use Rattle.value_core.specs.Name.{after_cmp}
use Rattle.std.specs.BTreeMap.{is_at}
use Rattle.std.specs.Map.{lookup}
use Rattle.value_core.specs.Named.{Name, Named, each_as, named, same_name, with_named}
use Rattle.world_steps.proofs.Settling.{same-claims, unlent-after}

some-is : {X : Type 0} (x y : X) → Some x ≡ Some y → x ≡ y
some-is x y e = cc

-- ---- the mark of a turn that is left
mark-same : (left : Option Ahead) (tree : Option Attempt) (waits : Bool) → mark_so (is_some left) (root_in tree) waits ≡ mark_left left tree waits
mark-same (Some h) tree waits = refl
mark-same None (Some tree) waits = refl
mark-same None None true = refl
mark-same None None false = refl

not-dropped : (left : Option Ahead) (tree : Option Attempt) (waits : Bool) → says_dropped (mark_left left tree waits) ≡ false
not-dropped (Some h) tree waits = refl
not-dropped None (Some tree) waits = refl
not-dropped None None true = refl
not-dropped None None false = refl

not-finished : (left : Option Ahead) (tree : Option Attempt) (waits : Bool) → says_finished (mark_left left tree waits) ≡ false
not-finished (Some h) tree waits = refl
not-finished None (Some tree) waits = refl
not-finished None None true = refl
not-finished None None false = refl

no-value : (left : Option Ahead) (tree : Option Attempt) (waits : Bool) → finished_by (mark_left left tree waits) ≡ None
no-value (Some h) tree waits = refl
no-value None (Some tree) waits = refl
no-value None None true = refl
no-value None None false = refl

-- what it waits for has a place
pub can-wait : (b : Board) (leads : Bool) (root : Option Name) (waits : Bool) (m : Mark) → m ≡ mark_so leads root waits → IfSome root (HasPlace b) → CanWait b m
can-wait b leads root waits m is place = subst (CanWait b) (sym is) (on leads root waits place)
  where
    on : (l : Bool) (r : Option Name) (w : Bool) → IfSome r (HasPlace b) → CanWait b (mark_so l r w)
    on true r w have = tt
    on false (Some n) w have = have
    on false None true have = tt
    on false None false have = tt

pub place-still : (old new : Board) (root : Option Name) → ((n : Name) → HasPlace old n → HasPlace new n) → IfSome root (HasPlace old) → IfSome root (HasPlace new)
place-still old new None places have = tt
place-still old new (Some n) places have = places n have

-- what was taken up front stays, where each place does
pub leave-still : (room : ℕ) (old new : Board) (attempts : Named Attempt) (u : Name) (entry : Entry) (l : Leave) → ((n : Name) → HasPlace old n → HasPlace new n) → CanLeave room old attempts u entry l → CanLeave room new attempts u entry l
leave-still room old new attempts u entry l places is = record { has_room = is.has_room; entry_is = is.entry_is; told_is = is.told_is; root = is.root; place = place-still old new l.root places is.place }

pub settling-still : (room : ℕ) (old new : Board) (attempts : Named Attempt) (aheads : Named Leading) (u : Name) (s : Settling) → ((n : Name) → HasPlace old n → HasPlace new n) → CanSettle room old attempts aheads u s → CanSettle room new attempts aheads u s
settling-still room old new attempts aheads u s places is = record { leave = leave-still room old new attempts u (Run u) s.leave places is.leave; left = is.left }

pub piece-there : (b : Board) (u : Name) → IsSome (unit_at b u) → IsSome (piece_at b u)
piece-there b u is = on (piece_at b u) refl is
  where
    on : (o : Option Piece) → piece_at b u ≡ o → IsSome (option_and_then unit_in o) → IsSome (piece_at b u)
    on None e absent = cc
    on (Some p) e there = subst IsSome (sym e) refl

-- whether or not it runs ahead still, its unit is there, and the same is lent
pub level-there : (leads : Bool) (u : Name) (old new : Shared) → LevelUnless leads u old new → IsSome (unit_at old.board u) → IsSome (unit_at new.board u)
level-there true u old new same is = subst (λ (s : Shared). IsSome (unit_at s.board u)) (sym same) is
level-there false u old new level is = subst IsSome (sym (ap (option_and_then unit_in) (level.woken u) ∙ beside-unit u None (piece_at old.board u))) is

pub level-same : (leads : Bool) (u : Name) (s : Shared) → leads ≡ true → LevelUnless leads u s s
level-same true u s is = refl
level-same false u s is = cc

pub level-so : (leads : Bool) (u : Name) (old new : Shared) → leads ≡ false → IsLevel u old new → LevelUnless leads u old new
level-so true u old new is level = cc
level-so false u old new is level = level

pub level-claims : (leads : Bool) (u : Name) (old new : Shared) → LevelUnless leads u old new → SameClaims old.board new.board
level-claims true u old new same = subst (λ (s : Shared). SameClaims old.board s.board) (sym same) (same-claims old.board)
level-claims false u old new level = level.claims

-- ---- a turn that runs ahead no more
-- what runs ahead still is the turn as it is left
leads-same : (left k : Ahead) → leads_on left ≡ Some k → left ≡ k
leads-same left k is = on left.takes left.held is
  where
    on : (t : Option Name) (rs : List Request) → leads_on (record left { takes = t; held = rs }) ≡ Some k → record left { takes = t; held = rs } ≡ k
    on None [] e = cc
    on None (r ∷ rs) e = some-is (record left { takes = None; held = r ∷ rs }) k e
    on (Some a) rs e = some-is (record left { takes = Some a; held = rs }) k e

-- whether or not it runs ahead still
record Levelled (base mid : Shared) (u : Name) (o : Option Ahead) : Type 0 where
  woken : (other : Name) → piece_at mid.board other ≡ beside_left u o (piece_at base.board other)
  aheads : IsChanged u o base.aheads mid.aheads
  claims : SameClaims base.board mid.board
  others : mid ≡ record base { board = mid.board; aheads = mid.aheads }

levelled : (base mid : Shared) (u : Name) (left : Ahead) (o : Option Ahead) → named u base.aheads ≡ Some left → leads_on left ≡ o → LevelUnless (is_some o) u base mid → Levelled base mid u o
levelled base mid u left (Some k) there is same = record {
  woken = λ other. ap (λ (s : Shared). piece_at s.board other) same;
  aheads = λ other. ap (λ (s : Shared). named other s.aheads) same ∙ on other (same_name other u) refl;
  claims = subst (λ (s : Shared). SameClaims base.board s.board) (sym same) (same-claims base.board);
  others = same ∙ ap (λ (s : Shared). record base { board = s.board; aheads = s.aheads }) (sym same);
}
  where
    on : (other : Name) (c : Bool) → same_name other u ≡ c → named other base.aheads ≡ cond c (Some k) (named other base.aheads)
    on other true e = ap (λ n. named n base.aheads) (same_name-equal other u e) ∙ there ∙ ap Some (leads-same left k is)
    on other false e = refl
levelled base mid u left None there is level = record { woken = level.woken; aheads = level.aheads; claims = level.claims; others = level.others }

-- the turn was left so, and its unit marked by that
pub left-so : (base mid new : Shared) (u : Name) (left : Ahead) (still : StillAhead) (root : Option Name) (entry : Entry) (found : Given) → named u base.aheads ≡ Some left → still.leads ≡ is_some (leads_on left) → still.waits ≡ left.waits
    → root ≡ root_in (named u base.attempts) → LevelUnless still.leads u base mid → IsMarkedLeft u still root mid.board new.board → IsUnlent u mid.board new.board → found ≡ given.Settled entry
    → new ≡ record mid { history = mid.history ++ entry ∷ []; board = new.board } → HasLeft base u left entry new found
left-so base mid new u left still root entry found there leads waits root_is level is unlent found_is others = record {
  found_is = found_is;
  here = λ x at. is.here ∙ ap (λ m. option_and_then (marked m) (piece_at mid.board u)) mark_is
      ∙ ap (option_and_then (marked m_left)) (lev.woken u ∙ ap (beside_left u (leads_on left)) (unit-piece base.board u x at) ∙ unit-beside (leads_on left) x)
      ∙ ap (λ c. cond c None (Some (piece.Unit (record x { mark = m_left })))) (not-dropped (leads_on left) tree left.waits);
  beside = λ other ne. is.others other ne ∙ ap (λ m. beside u m (piece_at mid.board other)) mark_is
      ∙ ap (λ c. cond c (option_map (woken u) (piece_at mid.board other)) (piece_at mid.board other)) (not-finished (leads_on left) tree left.waits) ∙ lev.woken other;
  aheads = λ other. ap (λ (s : Shared). named other s.aheads) others ∙ lev.aheads other;
  unlent = unlent-after u base.board mid.board new.board lev.claims unlent;
  others = others ∙ ap (λ (s : Shared). record s { history = s.history ++ entry ∷ []; board = new.board }) lev.others ∙ ap (λ a. record base { history = base.history ++ entry ∷ []; board = new.board; aheads = a }) (sym (ap (λ (s : Shared). s.aheads) others));
}
  where
    tree : Option Attempt
    tree = named u base.attempts

    m_left : Mark
    m_left = mark_left (leads_on left) tree left.waits

    mark_is : mark_so still.leads root still.waits ≡ m_left
    mark_is = ap (λ l. mark_so l root still.waits) leads ∙ ap (λ r. mark_so (is_some (leads_on left)) r still.waits) root_is ∙ ap (mark_so (is_some (leads_on left)) (root_in tree)) waits ∙ mark-same (leads_on left) tree left.waits

    lev : Levelled base mid u (leads_on left)
    lev = levelled base mid u left (leads_on left) there refl (subst (λ l. LevelUnless l u base mid) leads level)

    unit-beside : (o : Option Ahead) (x : Unit) → beside_left u o (Some (piece.Unit x)) ≡ Some (piece.Unit x)
    unit-beside (Some k) x = refl
    unit-beside None x = refl

-- the turn was settled in its place before
pub left-from : (base : Shared) (after : Named Ahead) (u : Name) (left : Ahead) (still : StillAhead) (entry : Entry) (new : Shared) (found : Given) → IsLeft u left base.aheads after still
    → LeavesAs (record base { aheads = after }) u still entry new found → HasLeft base u left entry new found
left-from base after u left still entry new found is leaves = record {
  found_is = r.found_is;
  here = r.here;
  beside = r.beside;
  aheads = λ other. r.aheads other ∙ on other (same_name other u) refl;
  unlent = r.unlent;
  others = r.others;
}
  where
    r : HasLeft (record base { aheads = after }) u left entry new found
    r = leaves left (ap (named u) is.put ∙ named-here u left base.aheads) is.leads is.waits

    on : (other : Name) (c : Bool) → same_name other u ≡ c → cond c (leads_on left) (named other after) ≡ cond c (leads_on left) (named other base.aheads)
    on other true e = refl
    on other false e = ap (named other) is.put ∙ named-with_named other u left base.aheads ∙ ap (λ c. cond c (Some left) (named other base.aheads)) e

-- ---- the row
-- a unit that stands where that one does is left as the row says
pub left-settles : (base new : Shared) (u : Name) (x y : Unit) (left : Ahead) (entry : Entry) (found : Given) → HasLeft base u left entry new found → unit_at base.board u ≡ Some y → unit_state y ≡ unit_state x → finished_by x.mark ≡ None → IsMachine base.setup y.machine
    → LeadSettles base u x left entry found new
left-settles base new u x y left entry found r there same unfinished machine = record {
  found_is = r.found_is;
  unit = record y { mark = mark_left (leads_on left) (named u base.attempts) left.waits };
  stands = record {
    state = λ i. record (same i) { finished = (no-value (leads_on left) (named u base.attempts) left.waits ∙ sym unfinished) i };
    machine = machine;
    mark = refl;
  };
  here = r.here y there;
  beside = r.beside;
  aheads = r.aheads;
  others = r.others;
}

-- ---- a turn that is settled in its place
module _ (u : Name) (olds news : Named Leading) (l m : Leading) (still : StillAhead) (there : named u olds ≡ Some l) (news_are : each_as ahead_of news ≡ with_named (each_as ahead_of olds) u (ahead_of m))
    (asked_are : AreAsked m.turn.effects) (leads : AreAsked m.turn.effects → still.leads ≡ is_some (leads_on (ahead_of m))) (waits : still.waits ≡ m.waits) where
  stands-for : (h : Ahead) → named u (each_as ahead_of olds) ≡ Some h → ahead_of l ≡ h
  stands-for h leading = some-is (ahead_of l) h (sym (view_found ahead_of u olds l there) ∙ leading)

  left-as : (left : Ahead) → ahead_of m ≡ left → IsLeft u left (each_as ahead_of olds) (each_as ahead_of news) still
  left-as left is = record {
    put = news_are ∙ ap (with_named (each_as ahead_of olds) u) is;
    leads = leads asked_are ∙ ap (λ k. is_some (leads_on k)) is;
    waits = waits ∙ ap (λ (k : Ahead). k.waits) is;
  }

  -- by its begin
  pub begun-left : ahead_of m ≡ record (ahead_of l) { takes = None } → (h : Ahead) → named u (each_as ahead_of olds) ≡ Some h → IsLeft u (record h { takes = None }) (each_as ahead_of olds) (each_as ahead_of news) still
  begun-left is h leading = left-as (record h { takes = None }) (is ∙ ap (λ (k : Ahead). record k { takes = None }) (stands-for h leading))

  -- by its first request
  pub settled-left : (left : Left) → IsLeftNext l left → IfSome (first_asked l.turn.effects) (λ r. HasSettled l r m) → (h : Ahead) (r : Request) (rest : List Request) → named u (each_as ahead_of olds) ≡ Some h → h.held ≡ r ∷ rest
      → IsLeft u (left_after h r rest) (each_as ahead_of olds) (each_as ahead_of news) still
  settled-left left next settled h r rest leading held =
      let so : HasSettled l next.r m = subst (λ o. IfSome o (λ q. HasSettled l q m)) (ap first_asked next.first) settled in
      let both : next.r ∷ so.rest ≡ r ∷ rest = sym so.first ∙ ap (λ (k : Ahead). k.held) (stands-for h leading) ∙ held in
      let first : next.r ≡ r = cc in
      let more : so.rest ≡ rest = cc in
      left-as (left_after h r rest) (so.left ∙ ap (λ (k : Ahead). left_after k next.r so.rest) (stands-for h leading) ∙ ap (λ q. left_after h q so.rest) first ∙ ap (left_after h r) more)

-- a turn that is taken out runs ahead no more
pub dropped-turn : (u : Name) (olds news : Named Leading) → ((q : Name) → lookup (is_at (after_cmp q)) news ≡ cond (is_at (after_cmp u) q) None (lookup (is_at (after_cmp q)) olds)) → IsChanged u None (each_as ahead_of olds) (each_as ahead_of news)
dropped-turn u olds news updates q =
    named-each_as ahead_of q news ∙ ap (option_map ahead_of) (sym (lookup_is_named q news) ∙ updates q ∙ ap (cond (is_at (after_cmp u) q) None) (lookup_is_named q olds)) ∙ on (same_name u q) refl
  where
    on : (c : Bool) → same_name u q ≡ c → option_map ahead_of (cond c None (named q olds)) ≡ cond (same_name q u) None (named q (each_as ahead_of olds))
    on true e = ap (λ d. cond d None (named q (each_as ahead_of olds))) (sym (ap (same_name q) (same_name-equal u q e) ∙ same_name-itself q))
    on false e = by (same_name q u) refl
      where
        by : (d : Bool) → same_name q u ≡ d → option_map ahead_of (named q olds) ≡ cond d None (named q (each_as ahead_of olds))
        by true f = let no : true ≡ false = sym (same_name-itself q) ∙ ap (λ n. same_name n q) (same_name-equal q u f) ∙ e in cc
        by false f = sym (named-each_as ahead_of q olds)
