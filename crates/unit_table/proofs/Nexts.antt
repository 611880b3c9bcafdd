-- The first name of a map under which something stands.
use Rattle.std.proofs.Common.{◌≡◌, ◌∙◌, ◌&&◌, ◌∷◌, [], Bool, Option, Some, None, IsSome, true, false, cond, is_some, inl, inr, refl, sym, ap, subst, true≢false}
use Rattle.std.specs.BTreeMap.Range.{range_contains}
use Rattle.std.specs.declared.cmp.Ordering.{Ordering}
use Rattle.std.specs.declared.cmp.Ordering.TheVariants.{Less, Equal, Greater}
use Rattle.std.specs.declared.ops.Bound.TheVariants.{Unbounded}
use Rattle.std.specs.List.{filter}
use Rattle.std.specs.Option.{option_and_then}
use Rattle.std.specs.Ordering.{is_gt, is_lt, ordering_reverse}
use Rattle.std.specs.Prelude.{IfNone, IfSome}
use Rattle.unit_table.specs.Board.{ComesAfter, IsNextIn, piece_in}
use Rattle.unit_table.specs.Keeping.{after_bound}
use Rattle.unit_table.specs.declared.piece.Piece.{Piece}
use Rattle.unit_table.specs.declared.record.Record.{Record}
use Rattle.value_core.proofs.NamedLaws.{found_first, named-before, named-first, named-rest, rises-rest}
use Rattle.value_core.specs.Name.{after_cmp}
use Rattle.value_core.specs.NameOrder.{after_cmp_total}
use Rattle.value_core.specs.Named.{Name, Named, Rises, named}

-- the first name of the list under which something stands
abbrev pub first_in : Named Record → Option Name
first_in [] = None
first_in (e ∷ es) = cond (is_some e.1.piece) (Some e.0) (first_in es)

-- of those that meet the test
abbrev pub first_such : (Name → Bool) → Named Record → Option Name
first_such test es = first_in (filter (λ e. test e.0) es)

none_some : {X P : Type 0} (o : Option X) (x : X) → o ≡ None → o ≡ Some x → P
none_some o x none some = absurd (cc)

some_same : {X : Type 0} (x y : X) → Some x ≡ Some y → x ≡ y
some_same x y e = cc

not_none : {X P : Type 0} (o : Option X) → o ≡ None → IsSome o → P
not_none None e is = absurd (cc)
not_none (Some x) e is = absurd (cc)

-- what comes before the first name of a map is not there
before_first : (q : Name) (e : Name × Record) (es : Named Record) → Rises (e ∷ es) → after_cmp e.0 q ≡ Greater → piece_in (e ∷ es) q ≡ None
before_first q e es rises greater =
    ap (option_and_then (λ (r : Record). r.piece)) (named-before q e es rises (after_cmp_total.antisymm q e.0 ∙ ap ordering_reverse greater))

-- what a first name is
pub record IsFirstSuch (test : Name → Bool) (es : Named Record) (k : Name) : Type 0 where
  pub there : IsSome (piece_in es k)
  pub meets : test k ≡ true
  pub first : (q : Name) → test q ≡ true → IsSome (piece_in es q) → is_gt (after_cmp k q) ≡ false

module _ (test : Name → Bool) where
  -- nothing stands under a name that meets the test, where nothing such stands below the head
  none_at : (e : Name × Record) (es : Named Record) (q : Name) → test q ≡ true → (test e.0 ≡ true → e.1.piece ≡ None) → piece_in es q ≡ None → piece_in (e ∷ es) q ≡ None
  none_at e es q meets head rest = on (named q (e ∷ es)) refl
    where
      on : (found : Option Record) → named q (e ∷ es) ≡ found → piece_in (e ∷ es) q ≡ None
      on None absent = ap (option_and_then (λ (r : Record). r.piece)) absent
      on (Some r) there = elim (found_first q r e es there) [
        | inl here ↦ ap (option_and_then (λ (x : Record). x.piece)) there ∙ ap (λ (x : Record). x.piece) here.1 ∙ head (ap test (sym here.0) ∙ meets)
        | inr below ↦ ap (option_and_then (λ (x : Record). x.piece)) there ∙ sym (ap (option_and_then (λ (x : Record). x.piece)) below) ∙ rest
      ]

  -- none comes exactly where nothing stands there
  pub none_such : (es : Named Record) → first_such test es ≡ None → (q : Name) → test q ≡ true → piece_in es q ≡ None
  none_such [] none q meets = refl
  none_such (e ∷ es) none q meets = on (test e.0) refl none (λ rest. none_such es rest q meets)
    where
      on_piece : (found : Option Piece) → e.1.piece ≡ found → cond (is_some found) (Some e.0) (first_such test es) ≡ None → (first_such test es ≡ None → piece_in es q ≡ None) → piece_in (e ∷ es) q ≡ None
      on_piece (Some p) is some later = absurd (cc)
      on_piece None is rest later = none_at e es q meets (λ _. is) (later rest)

      on : (t : Bool) → test e.0 ≡ t → first_in (cond t (e ∷ filter (λ x. test x.0) es) (filter (λ x. test x.0) es)) ≡ None → (first_such test es ≡ None → piece_in es q ≡ None) → piece_in (e ∷ es) q ≡ None
      on true is so later = on_piece e.1.piece refl so later
      on false is so later = none_at e es q meets (λ meets_head. absurd (true≢false (sym meets_head ∙ is))) (later so)

  -- what is first in the rest is first in all, where the head isn't such
  later : (e : Name × Record) (es : Named Record) (k : Name) → Rises (e ∷ es) → IsFirstSuch test es k → (test e.0 ≡ true → e.1.piece ≡ None) → IsFirstSuch test (e ∷ es) k
  later e es k rises first head = record { there = there; meets = first.meets; first = least }
    where
      stands : (q : Name) (r : Record) → named q es ≡ Some r → piece_in (e ∷ es) q ≡ r.piece
      stands q r is = ap (option_and_then (λ (x : Record). x.piece)) (named-rest q r e es rises is)

      there : IsSome (piece_in (e ∷ es) k)
      there = on (named k es) refl
        where
          on : (found : Option Record) → named k es ≡ found → IsSome (piece_in (e ∷ es) k)
          on None absent = not_none (piece_in es k) (ap (option_and_then (λ (x : Record). x.piece)) absent) first.there
          on (Some r) is = subst (λ o. IsSome o) (ap (option_and_then (λ (x : Record). x.piece)) is ∙ sym (stands k r is)) first.there

      least : (q : Name) → test q ≡ true → IsSome (piece_in (e ∷ es) q) → is_gt (after_cmp k q) ≡ false
      least q meets is = on (named q (e ∷ es)) refl
        where
          on : (found : Option Record) → named q (e ∷ es) ≡ found → is_gt (after_cmp k q) ≡ false
          on None absent = not_none (piece_in (e ∷ es) q) (ap (option_and_then (λ (x : Record). x.piece)) absent) is
          on (Some r) found = elim (found_first q r e es found) [
            | inl here ↦
                let gone : r.piece ≡ None = ap (λ (x : Record). x.piece) here.1 ∙ head (ap test (sym here.0) ∙ meets) in
                not_none (piece_in (e ∷ es) q) (ap (option_and_then (λ (x : Record). x.piece)) found ∙ gone) is
            | inr below ↦ first.first q meets (subst (λ o. IsSome o) (ap (option_and_then (λ (x : Record). x.piece)) found ∙ sym (ap (option_and_then (λ (x : Record). x.piece)) below)) is)
          ]

  pub first_is : (es : Named Record) (k : Name) → Rises es → first_such test es ≡ Some k → IsFirstSuch test es k
  first_is [] k rises some = absurd (cc)
  first_is (e ∷ es) k rises some = on (test e.0) refl some (λ rest. first_is es k (rises-rest e es rises) rest)
    where
      here : test e.0 ≡ true → IsSome e.1.piece → IsFirstSuch test (e ∷ es) e.0
      here meets stands = record {
        there = subst (λ o. IsSome o) (sym (ap (option_and_then (λ (x : Record). x.piece)) (named-first e es))) stands;
        meets = meets;
        first = least;
      }
        where
          least : (q : Name) → test q ≡ true → IsSome (piece_in (e ∷ es) q) → is_gt (after_cmp e.0 q) ≡ false
          least q meets is = by_order (after_cmp e.0 q) refl
            where
              by_order : (o : Ordering) → after_cmp e.0 q ≡ o → is_gt o ≡ false
              by_order Less so = refl
              by_order Equal so = refl
              by_order Greater so = not_none (piece_in (e ∷ es) q) (before_first q e es rises so) is

      on_piece : (found : Option Piece) → e.1.piece ≡ found → test e.0 ≡ true → cond (is_some found) (Some e.0) (first_such test es) ≡ Some k → (first_such test es ≡ Some k → IsFirstSuch test es k) → IsFirstSuch test (e ∷ es) k
      on_piece (Some p) is meets so below = subst (IsFirstSuch test (e ∷ es)) (some_same e.0 k so) (here meets (subst (λ o. IsSome o) (sym is) refl))
      on_piece None is meets so below = later e es k rises (below so) (λ _. is)

      on : (t : Bool) → test e.0 ≡ t → first_in (cond t (e ∷ filter (λ x. test x.0) es) (filter (λ x. test x.0) es)) ≡ Some k → (first_such test es ≡ Some k → IsFirstSuch test es k) → IsFirstSuch test (e ∷ es) k
      on true is so below = on_piece e.1.piece refl is so below
      on false is so below = later e es k rises (below so) (λ meets. absurd (true≢false (sym meets ∙ is)))

-- the names that come after that one
abbrev pub after_test : Option Name → Name → Bool
after_test name q = range_contains after_cmp (after_bound name) Unbounded q

comes : (name : Option Name) (q : Name) → after_test name q ≡ true → ComesAfter name q
comes None q is = tt
comes (Some a) q is = on (after_cmp a q) is
  where
    on : (o : Ordering) → (is_lt o && true) ≡ true → o ≡ Less
    on Less is = refl
    on Equal is = absurd (true≢false (sym is))
    on Greater is = absurd (true≢false (sym is))

tests : (name : Option Name) (q : Name) → ComesAfter name q → after_test name q ≡ true
tests None q is = refl
tests (Some a) q is = ap (λ o. is_lt o && true) is

-- what was found first is the next one
pub next_found : (records : Named Record) (name : Option Name) (found : Option Name) → Rises records → found ≡ first_such (after_test name) records → IfSome found (IsNextIn records name)
next_found records name None rises is = tt
next_found records name (Some k) rises is =
    let first = first_is (after_test name) records k rises (sym is) in
    record { there = first.there; after = comes name k first.meets; first = λ q after stands. first.first q (tests name q after) stands }

pub none_found : (records : Named Record) (name : Option Name) (found : Option Name) → found ≡ first_such (after_test name) records → IfNone found ((q : Name) → ComesAfter name q → piece_in records q ≡ None)
none_found records name None is = λ q after. none_such (after_test name) records (sym is) q (tests name q after)
none_found records name (Some k) is = tt
