-- Statuses that exclude one another.
use Rattle.std.proofs.Common.{◌≡◌, ◌≢◌, ℕ, sym, ◌∙◌, inl, inr, arith}
use Rattle.std.specs.Prelude.{◌⊎◌, Option, None, Some, IsSome, IfSome, IsSomeAnd}
use Rattle.serial_model.specs.Replay.{status}
use Rattle.serial_model.specs.declared.end.End.{End}
use Rattle.command_phases.specs.declared.outcome.Outcome.{Outcome}
use Rattle.command_phases.specs.Outcome.{IsEnded, IsStatusOfEnd, IsWithoutRun}
use Rattle.command_phases.specs.Seen.{Seen, NoWriteFailed, WriteFailed}

pub apart_from : (s n : ℕ) → IsEnded s ⊎ (s ≡ 6) → s ≡ n → (n ≡ 0 → ⊥) → (n ≡ 1 → ⊥) → (n ≡ 5 → ⊥) → (n ≡ 7 → ⊥) → (n ≡ 6 → ⊥) → ⊥
apart_from s n h e a b c d f = elim h [
  | inl h ↦ elim h [ inl x ↦ a (sym e ∙ x) | inr h ↦ elim h [ inl x ↦ b (sym e ∙ x) | inr h ↦ elim h [ inl x ↦ c (sym e ∙ x) | inr x ↦ d (sym e ∙ x) ] ] ]
  | inr x ↦ f (sym e ∙ x)
]

pub not_three : (s : ℕ) → IsEnded s ⊎ (s ≡ 6) → s ≡ 3 → ⊥
not_three s h e = apart_from s 3 h e (λ x. omega (arith, x)) (λ x. omega (arith, x)) (λ x. omega (arith, x)) (λ x. omega (arith, x)) (λ x. omega (arith, x))

pub not_four : (s : ℕ) → IsEnded s ⊎ (s ≡ 6) → s ≡ 4 → ⊥
not_four s h e = apart_from s 4 h e (λ x. omega (arith, x)) (λ x. omega (arith, x)) (λ x. omega (arith, x)) (λ x. omega (arith, x)) (λ x. omega (arith, x))

pub no_run : (s : ℕ) → IsEnded s ⊎ (s ≡ 6) → IsWithoutRun s → ⊥
no_run s h w = elim w [ inl e ↦ not_three s h e | inr e ↦ not_four s h e ]

pub not_ended : (n : ℕ) → (n ≡ 0 → ⊥) → (n ≡ 1 → ⊥) → (n ≡ 5 → ⊥) → (n ≡ 7 → ⊥) → IsEnded n → ⊥
not_ended n a b c d h = elim h [ inl x ↦ a x | inr h ↦ elim h [ inl x ↦ b x | inr h ↦ elim h [ inl x ↦ c x | inr x ↦ d x ] ] ]

pub three_not_ended : IsEnded 3 → ⊥
three_not_ended h = not_ended 3 (λ x. omega (arith, x)) (λ x. omega (arith, x)) (λ x. omega (arith, x)) (λ x. omega (arith, x)) h

pub four_not_ended : IsEnded 4 → ⊥
four_not_ended h = not_ended 4 (λ x. omega (arith, x)) (λ x. omega (arith, x)) (λ x. omega (arith, x)) (λ x. omega (arith, x)) h

pub six_not_ended : IsEnded 6 → ⊥
six_not_ended h = not_ended 6 (λ x. omega (arith, x)) (λ x. omega (arith, x)) (λ x. omega (arith, x)) (λ x. omega (arith, x)) h

-- no write failed, or one did
pub no_failure : {before after : Seen} → NoWriteFailed before after → WriteFailed before after → ⊥
no_failure none failed = elim failed [ inl out ↦ out none.out | inr rest ↦ elim rest [ inl err ↦ err none.err | inr files ↦ files none.files ] ]

-- where a write failed, no end was written
pub must_tell : (before after : Seen) (s : ℕ) → IsEnded s ⊎ (s ≡ 6) → (s ≢ 7 → s ≢ 6 → NoWriteFailed before after) → WriteFailed before after → IsWithoutRun s ⊎ ((s ≡ 6) ⊎ (s ≡ 7))
must_tell before after s statuses none failed = elim statuses [
  | inl e ↦ elim e [
    | inl x ↦ absurd (no_failure (none (λ y. omega (arith, x, y)) (λ y. omega (arith, x, y))) failed)
    | inr e ↦ elim e [
      | inl x ↦ absurd (no_failure (none (λ y. omega (arith, x, y)) (λ y. omega (arith, x, y))) failed)
      | inr e ↦ elim e [ inl x ↦ absurd (no_failure (none (λ y. omega (arith, x, y)) (λ y. omega (arith, x, y))) failed) | inr seven ↦ inr (inr seven) ]
    ]
  ]
  | inr six ↦ inr (inl six)
]

-- a run that is written in full has the status of its end, or there was no memory
pub is_done : (outcome : Outcome) → IsEnded outcome.status ⊎ (outcome.status ≡ 6)
    → (IsEnded outcome.status → IsSome outcome.end) → IfSome outcome.end (λ end. status end ≡ outcome.status) → IsStatusOfEnd outcome ⊎ (outcome.status ≡ 6)
is_done outcome h some ends = elim h [ inl e ↦ inl (both outcome.end (some e) ends) | inr m ↦ inr m ]
  where
    both : (end : Option End) → IsSome end → IfSome end (λ e. status e ≡ outcome.status) → IsSomeAnd end (λ e. status e ≡ outcome.status)
    both None is e = absurd (cc)
    both (Some end) is e = e
