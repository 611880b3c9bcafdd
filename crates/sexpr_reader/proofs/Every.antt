-- Every text is spelled or refused.
use Rattle.std.proofs.Common.{◌≡◌, ◌≢◌, ◌<◌, ◌≤◌, ◌⊎◌, inl, inr, ℕ, zero, suc, Bool, true, false, List, [], ◌∷◌, ◌++◌, length, refl, arith}
use Rattle.std.specs.Str.{IsUtf8, is_utf8}
use Rattle.std.proofs.lemmas.Bool.{cases_lt}
use Rattle.std.proofs.lemmas.Str.{IsUtf8-from_is_utf8, is_utf8-from_IsUtf8}
use Rattle.value_core.specs.Place.{Spot}
use Rattle.sexpr_reader.specs.declared.error.ReadKind.{ReadKind}
use Rattle.sexpr_reader.specs.declared.error.ReadKind.TheVariants.{Unclosed, Unmatched, TooNested}
use Rattle.sexpr_reader.specs.declared.form.Form.{Form}
use Rattle.sexpr_reader.specs.declared.frame.Frame.{Frame}
use Rattle.sexpr_reader.specs.declared.group.Group.{Group}
use Rattle.sexpr_reader.specs.declared.group.Group.TheVariants.{List as ListGroup, Vector, Map, At}
use Rattle.sexpr_reader.specs.declared.group.Opened.{Opened}
use Rattle.sexpr_reader.specs.declared.token.TokenKind.{TokenKind}
use Rattle.sexpr_reader.specs.declared.token.TokenKind.TheVariants.{Open, Close, Atom as AtomKind}
use Rattle.sexpr_reader.specs.Cursor.{Cursor}
use Rattle.sexpr_reader.specs.Forms.{form_at, atom_kind, Spells}
use Rattle.sexpr_reader.specs.Grammar.{Stops, IsSource, IsRefused, source}
use Rattle.sexpr_reader.specs.Limits.{nest_limit, source_limit}
use Rattle.sexpr_reader.specs.Nest.{Nest, nest_of, opens_of, opened_of, frame_of, settled, shut_settled, IsInnermost, Moves, Blocks}
use Rattle.sexpr_reader.specs.Opens.{Leaves}
use Rattle.sexpr_reader.specs.Tokens.{IsEnd}
use Rattle.sexpr_reader.proofs.Found.{Next, NoNext, next_from}
use Rattle.sexpr_reader.proofs.Same.{token_shorter}
use Rattle.sexpr_reader.proofs.Sources.{SoFar, SoFar-begin, SoFar-take, SoFar-end, stops_of}

same_group_or_not : (g h : Group) → (g ≡ h) ⊎ (g ≢ h)
same_group_or_not ListGroup ListGroup = inl refl
same_group_or_not ListGroup Vector = inr (λ e. cc)
same_group_or_not ListGroup Map = inr (λ e. cc)
same_group_or_not ListGroup At = inr (λ e. cc)
same_group_or_not Vector ListGroup = inr (λ e. cc)
same_group_or_not Vector Vector = inl refl
same_group_or_not Vector Map = inr (λ e. cc)
same_group_or_not Vector At = inr (λ e. cc)
same_group_or_not Map ListGroup = inr (λ e. cc)
same_group_or_not Map Vector = inr (λ e. cc)
same_group_or_not Map Map = inl refl
same_group_or_not Map At = inr (λ e. cc)
same_group_or_not At ListGroup = inr (λ e. cc)
same_group_or_not At Vector = inr (λ e. cc)
same_group_or_not At Map = inr (λ e. cc)
same_group_or_not At At = inl refl

innermost_or_not : (g : Group) (frames : List Frame) → IsInnermost g frames ⊎ (IsInnermost g frames → ⊥)
innermost_or_not g [] = inr (λ h. h)
innermost_or_not g (f ∷ fs) = same_group_or_not f.opened.group g

-- a nest takes a token, or does not
record Moved (n : Nest) (at : Spot) (kind : TokenKind) : Type 0 where
  new : Nest
  is : Moves n at kind new

record Blocked (n : Nest) (at : Spot) (kind : TokenKind) : Type 0 where
  why : ReadKind
  place : Spot
  is : Blocks n at kind why place

open_by : (n : Nest) (at : Spot) (g : Group) → ((length n.frames < nest_limit) ⊎ (nest_limit ≤ length n.frames)) → Moved n at (Open g) ⊎ Blocked n at (Open g)
open_by n at g (inl below) = inl (record { new = nest_of (frame_of (opened_of at g) n.forms ∷ n.frames) []; is = (below, refl) })
open_by n at g (inr full) = inr (record { why = TooNested; place = at; is = (refl, refl, full) })

close_by : (n : Nest) (at : Spot) (g : Group) → IsInnermost g n.frames ⊎ (IsInnermost g n.frames → ⊥) → Moved n at (Close g) ⊎ Blocked n at (Close g)
close_by n at g (inl is) = inl (record { new = shut_settled n; is = (is, refl) })
close_by n at g (inr not) = inr (record { why = Unmatched; place = at; is = (refl, refl, not) })

moves_or_blocks : (n : Nest) (at : Spot) (kind : TokenKind) → Moved n at kind ⊎ Blocked n at kind
moves_or_blocks n at (Open g) = open_by n at g (cases_lt (length n.frames) nest_limit)
moves_or_blocks n at (Close g) = close_by n at g (innermost_or_not g n.frames)
moves_or_blocks n at (AtomKind a) = inl (record { new = settled n.frames (n.forms ++ form_at at (atom_kind a) ∷ []); is = refl })

-- the tokens of a whole stop somewhere, or it spells forms
record StopsIn (whole : Cursor) : Type 0 where
  opens : List Opened
  here : Cursor
  kind : ReadKind
  at : Spot
  leaves : Leaves whole opens here
  stops : Stops here opens kind at

abbrev Outcome : Cursor → Type 0
Outcome whole = ((forms : List Form) × Spells whole forms) ⊎ StopsIn whole

ended : (whole c : Cursor) (frames : List Frame) (forms : List Form) → SoFar whole (nest_of frames forms) c → IsEnd c → Outcome whole
ended whole c [] forms s e = inl (forms, SoFar-end whole c forms s e)
ended whole c (f ∷ fs) forms s e = inr (record { opens = opens_of (f ∷ fs); here = c; kind = Unclosed; at = f.opened.at; leaves = s.leaves; stops = Stops.unclosed f.opened e })

token_by : (whole c : Cursor) (n : Nest) (t : Next c) → SoFar whole n c → ((m : Nest) → SoFar whole m t.behind → Outcome whole)
    → Moved n t.token.at t.token.kind ⊎ Blocked n t.token.at t.token.kind → Outcome whole
token_by whole c n t s go (inl m) = go m.new (SoFar-take whole c t.behind n m.new t.token s t.is m.is)
token_by whole c n t s go (inr b) =
    inr (record { opens = opens_of n.frames; here = c; kind = b.why; at = b.place; leaves = s.leaves; stops = stops_of c t.behind n t.token b.why b.place t.is b.is })

next_by : (whole c : Cursor) (n : Nest) → SoFar whole n c → ((m : Nest) (d : Cursor) → SoFar whole m d → length d.rest < length c.rest → Outcome whole)
    → IsEnd c ⊎ Next c ⊎ NoNext c → Outcome whole
next_by whole c n s go (inl e) = ended whole c n.frames n.forms s e
next_by whole c n s go (inr (inl t)) =
    token_by whole c n t s (λ m r. go m t.behind r (token_shorter t.is)) (moves_or_blocks n t.token.at t.token.kind)
next_by whole c n s go (inr (inr x)) =
    inr (record { opens = opens_of n.frames; here = c; kind = x.kind; at = x.at; leaves = s.leaves; stops = Stops.no_token x.is })

outcome_below : (whole : Cursor) (k : ℕ) (n : Nest) (c : Cursor) → SoFar whole n c → length c.rest < k → Outcome whole
outcome_below whole zero n c s h = absurd (omega arith)
outcome_below whole (suc k) n c s h = next_by whole c n s (λ m d r l. outcome_below whole k m d r (omega arith)) (next_from c)

outcome : (whole : Cursor) → Outcome whole
outcome whole = outcome_below whole (suc (length whole.rest)) (nest_of [] []) whole (SoFar-begin whole) (omega arith)

abbrev Either : List ℕ → Type 0
Either bytes = ((forms : List Form) × IsSource bytes forms) ⊎ ((kind : ReadKind) × (at : Spot) × IsRefused bytes kind at)

text_by : (bytes : List ℕ) → length bytes ≤ source_limit → IsUtf8 bytes → Outcome (source bytes) → Either bytes
text_by bytes within text (inl s) = inl (s.0, record { within = within; text = text; spelled = s.1 })
text_by bytes within text (inr r) = inr (r.kind, r.at, IsRefused.token r.opens r.here within text r.leaves r.stops)

bytes_by : (bytes : List ℕ) (t : Bool) → length bytes ≤ source_limit → is_utf8 bytes ≡ t → Either bytes
bytes_by bytes true within e = text_by bytes within (IsUtf8-from_is_utf8 bytes e) (outcome (source bytes))
bytes_by bytes false within e = inr (_, _, IsRefused.no_text within (λ u. absurd (let x = is_utf8-from_IsUtf8 bytes u in cc)))

pub every_text : (bytes : List ℕ) → Either bytes
every_text bytes = by (cases_lt source_limit (length bytes)) where
  by : ((source_limit < length bytes) ⊎ (length bytes ≤ source_limit)) → Either bytes
  by (inl long) = inr (_, _, IsRefused.too_long long)
  by (inr within) = bytes_by bytes (is_utf8 bytes) within refl
