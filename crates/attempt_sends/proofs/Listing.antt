-- The messages of sends, as they are listed from the last one.
use Rattle.std.proofs.Common.{◌≡◌, ◌∙◌, ◌+◌, ℕ, suc, Bool, true, false, cond, drop, length, length-append, take, reverse, List, [], ◌∷◌, ◌++◌, append-nil, append_assoc, refl, sym, ap, ap₂, subst, arith}
use Rattle.std.proofs.lemmas.List.{length-reverse, reverse-append}
use Rattle.std.specs.Prelude.{Option, Some}
use Rattle.attempt_sends.specs.declared.letters.Letter.{Letter}
use Rattle.attempt_sends.specs.Letters.{AreLeft, held_sends, left_at, letter_of, letters_of, noted_or}
use Rattle.serial_model.specs.declared.effect.Effect.{Effect}
use Rattle.serial_model.specs.declared.effect.What.{What}
use Rattle.serial_model.specs.declared.effect.What.TheVariants as what
use Rattle.serial_model.specs.Sends.{effects_to, what_sends}
use Rattle.shared_world.proofs.Posting.{args-in, sends-append}
use Rattle.shared_world.specs.Ahead.{Ahead}
use Rattle.shared_world.specs.rows.Sending.{Send, send_in, sends_in}
use Rattle.value_core.specs.declared.value.Value.{Value}
use Rattle.value_core.proofs.NamedLaws.{named-with_named, same_name-equal, same_name-itself}
use Rattle.value_core.specs.Named.{Name, Named, named, same_name, with_named}
use Rattle.world_model.proofs.lists.Lists.{drop-left, flat_map-append}
use Rattle.world_model.specs.Message.{tentative}

-- the messages of one list of sends and then of another
pub letters-append : (u root : Name) (held : Option Ahead) (sends more rest : List Send) → letters_of u root held sends (more ++ rest) ≡ letters_of u root held sends more ++ letters_of u root held (sends ++ more) rest
letters-append u root held sends [] rest = ap (λ l. letters_of u root held l rest) (sym (append-nil sends))
letters-append u root held sends (s ∷ more) rest =
    ap (λ l. letter_of u root held sends s ∷ l) (letters-append u root held (sends ++ s ∷ []) more rest
    ∙ ap (λ l. letters_of u root held (sends ++ s ∷ []) more ++ letters_of u root held l rest) (append_assoc sends (s ∷ []) more))

take-left : {X : Type 0} (xs ys : List X) → take (length xs) (xs ++ ys) ≡ xs
take-left [] ys = refl
take-left (x ∷ xs) ys = ap (λ l. x ∷ l) (take-left xs ys)

-- the last of a list that is reversed
pub reverse-first : {X : Type 0} (x : X) (xs : List X) → reverse (x ∷ xs) ≡ reverse xs ++ x ∷ []
reverse-first x xs = reverse-append (x ∷ []) xs

-- The effects but for those below are listed, of which so many are left; their messages are there, the last one first.
pub record IsListing (u root : Name) (held : Option Ahead) (effects : List Effect) (before left : ℕ) (below : List Effect) (letters : List Letter) : Type 0 where
  pub rest : List Effect
  pub whole : reverse below ++ rest ≡ effects
  pub count : length below ≡ before + left
  pub listed : reverse letters ≡ letters_of u root held (sends_in (reverse below)) (sends_in rest)

-- none is yet
pub listing-none : (u root : Name) (held : Option Ahead) (effects : List Effect) (before left : ℕ) (below : List Effect) → reverse below ≡ effects → length effects ≡ before + left → IsListing u root held effects before left below []
listing-none u root held effects before left below is count = record { rest = []; whole = append-nil (reverse below) ∙ is; count = sym (length-reverse below) ∙ ap length is ∙ count; listed = refl }

-- one more is
pub listing-next : (u root : Name) (held : Option Ahead) (effects : List Effect) (before left fewer : ℕ) (e : Effect) (below : List Effect) (letters more : List Letter) → left ≡ suc fewer → IsListing u root held effects before left (e ∷ below) letters
    → more ≡ letters ++ letters_of u root held (sends_in (reverse below)) (send_in e.what) → IsListing u root held effects before fewer below more
listing-next u root held effects before left fewer e below letters more one is added = record {
  rest = e ∷ is.rest;
  whole = sym (append_assoc (reverse below) (e ∷ []) is.rest) ∙ (ap (λ l. l ++ is.rest) (sym (reverse-first e below)) ∙ is.whole);
  count = let count : suc (length below) ≡ before + left = is.count in omega (arith, one, count);
  listed =
      ap reverse added ∙ reverse-append letters (letters_of u root held (sends_in (reverse below)) (send_in e.what)) ∙ ap₂ (λ xs ys. xs ++ ys) (single e.what) (is.listed ∙ ap (λ l. letters_of u root held (sends_in l) (sends_in is.rest)) (reverse-first e below)
      ∙ ap (λ l. letters_of u root held l (sends_in is.rest)) (sends-append (reverse below) (e ∷ []) ∙ ap (λ l. sends_in (reverse below) ++ l) (append-nil (send_in e.what))))
      ∙ sym (letters-append u root held (sends_in (reverse below)) (send_in e.what) (sends_in is.rest));
}
  where
    single : (w : What) → reverse (letters_of u root held (sends_in (reverse below)) (send_in w)) ≡ letters_of u root held (sends_in (reverse below)) (send_in w)
    single (what.Send to args) = refl
    single (what.Bytes text) = refl
    single (what.Spawn name behaviour state) = refl
    single (what.Become behaviour state) = refl

-- all are
pub listing-all : (u root : Name) (held : Option Ahead) (effects : List Effect) (before left : ℕ) (below : List Effect) (letters : List Letter) → left ≡ 0 → IsListing u root held effects before left below letters
    → reverse letters ≡ letters_of u root held (sends_in (take before effects)) (sends_in (drop before effects))
listing-all u root held effects before left below letters none is =
    is.listed ∙ ap₂ (λ first rest. letters_of u root held (sends_in first) (sends_in rest)) (sym (take-left (reverse below) is.rest) ∙ ap₂ (λ n l. take n l) long is.whole) (sym (drop-left (reverse below) is.rest) ∙ ap₂ (λ n l. drop n l) long is.whole)
  where
    long : length (reverse below) ≡ before
    long = let same = length-reverse below in let count = is.count in omega (arith, same, count, none)

-- a message that is added is that of its send
pub letter-so : (u root : Name) (held : Option Ahead) (done : List Effect) (to : Name) (args : List Value) (earlier : ℕ) (letter : Letter) → letter ≡ record { to = to; message = tentative u root args; earlier = earlier }
    → earlier ≡ length (held_sends to held) + length (effects_to to done) → letter ∷ [] ≡ letters_of u root held (sends_in done) ((to, args) ∷ [])
letter-so u root held done to args earlier letter is count =
    ap (λ l. l ∷ []) (is ∙ ap (λ n. record { to = to; message = tentative u root args; earlier = n }) (count ∙ ap (λ (l : List (List Value)). length (held_sends to held) + length l) (sym (args-in to done))))

-- ---- how many are sent to an actor
-- what one effect more sends
one-more : (actor : Name) (effects : List Effect) (e : Effect) → length (effects_to actor (effects ++ e ∷ [])) ≡ length (effects_to actor effects) + length (what_sends actor e.what)
one-more actor effects e =
    ap length (flat_map-append (λ (k : Effect). what_sends actor k.what) effects (e ∷ [])) ∙ length-append (effects_to actor effects) (effects_to actor (e ∷ []))
    ∙ ap (λ n. length (effects_to actor effects) + n) (ap length (append-nil (what_sends actor e.what)))

-- before anything is noted all are left
pub all-left : (all these : List Effect) → these ≡ all → AreLeft [] all these
all-left all these is actor = ap (λ es. length (effects_to actor es)) (sym is)

-- of those up to an effect: as they are listed
pub left-up : (counts : Named ℕ) (all below : List Effect) (e : Effect) → AreLeft counts all (reverse (e ∷ below)) → AreLeft counts all (reverse below ++ e ∷ [])
left-up counts all below e left = subst (AreLeft counts all) (reverse-first e below) left

-- what is no send sends nothing
pub sends-nothing : (w : What) → ((to : Name) (args : List Value) → w ≡ what.Send to args → ⊥) → send_in w ≡ []
sends-nothing (what.Send to args) none = absurd (none to args refl)
sends-nothing (what.Bytes text) none = refl
sends-nothing (what.Spawn name behaviour state) none = refl
sends-nothing (what.Become behaviour state) none = refl

pub sends-none : (w : What) → ((to : Name) (args : List Value) → w ≡ what.Send to args → ⊥) → (actor : Name) → what_sends actor w ≡ []
sends-none (what.Send to args) none actor = absurd (none to args refl)
sends-none (what.Bytes text) none actor = refl
sends-none (what.Spawn name behaviour state) none actor = refl
sends-none (what.Become behaviour state) none actor = refl

-- what sends nothing takes none away
pub left-same : (counts : Named ℕ) (all these : List Effect) (e : Effect) → ((actor : Name) → what_sends actor e.what ≡ []) → AreLeft counts all (these ++ e ∷ []) → AreLeft counts all these
left-same counts all these e none left actor =
    let whole = one-more actor these e in let no : length (what_sends actor e.what) ≡ 0 = ap length (none actor) in let is = left actor in omega (arith, whole, no, is)

-- what sends to an actor takes one away of it
pub left-less : (old new : Named ℕ) (all these : List Effect) (e : Effect) (to : Name) (args : List Value) (count : ℕ) → e.what ≡ what.Send to args → count + 1 ≡ left_at to old all → new ≡ with_named old to count
    → AreLeft old all (these ++ e ∷ []) → AreLeft new all these
left-less old new all these e to args count is less put left actor = ap (λ n. left_at actor n all) put ∙ ap (λ o. noted_or o actor all) (named-with_named actor to count old) ∙ on (same_name actor to) refl
  where
    so : length (effects_to actor these) + length (what_sends actor (what.Send to args)) ≡ left_at actor old all
    so = ap (λ w. length (effects_to actor these) + length (what_sends actor w)) (sym is) ∙ sym (one-more actor these e) ∙ sym (left actor)

    on : (c : Bool) → same_name actor to ≡ c → noted_or (cond c (Some count) (named actor old)) actor all ≡ length (effects_to actor these)
    on true same =
        let one : length (what_sends actor (what.Send to args)) ≡ 1 = ap (λ b. length (cond b (args ∷ []) [])) same in
        let here : count + 1 ≡ left_at actor old all = less ∙ ap (λ n. left_at n old all) (sym (same_name-equal actor to same)) in
        let whole = so in omega (arith, one, here, whole)
    on false same =
        let none : length (what_sends actor (what.Send to args)) ≡ 0 = ap (λ b. length (cond b (args ∷ []) [])) same in
        let whole = so in omega (arith, none, whole)

-- how many came before it
pub counted-before : (counts : Named ℕ) (all these : List Effect) (e : Effect) (to : Name) (args : List Value) (count : ℕ) → e.what ≡ what.Send to args → count + 1 ≡ left_at to counts all → AreLeft counts all (these ++ e ∷ []) → count ≡ length (effects_to to these)
counted-before counts all these e to args count is less left =
    let one : length (what_sends to e.what) ≡ 1 = ap (λ w. length (what_sends to w)) is ∙ ap (λ b. length (cond b (args ∷ []) [])) (same_name-itself to) in
    let whole = one-more to these e in let up = left to in omega (arith, one, whole, up, less)
