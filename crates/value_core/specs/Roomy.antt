-- A list with its room.
use Rattle.std.specs.Prelude.{ℕ, List, refl}
use Rattle.std.specs.Coded.{Coded, code_by, coded×, coded_ℕ, coded_list}

-- the items, and how many more can be pushed without taking memory
pub record Roomy (T : Type 0) : Type 0 where
  pub items : List T
  pub room : ℕ

-- it is stored as the pair of its parts
abbrev pub roomy_code : {T : Type 0} → Coded T → Coded (Roomy T)
roomy_code {T} item = code_by (List T × ℕ) (coded× (coded_list item) coded_ℕ) (λ r. (r.items, r.room)) (λ p. record { items = p.0; room = p.1 }) (λ _. refl)
