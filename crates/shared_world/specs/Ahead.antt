-- A turn that runs ahead of the history, as it is kept beside its unit.
use Rattle.std.specs.Prelude.{ℕ, Bool, List, Option, refl}
use Rattle.std.specs.Coded.{Coded, code_by, coded×, coded_bool, coded_list, coded_option, coded_ℕ}
use Rattle.serial_model.specs.contracts.request.Request as request_row
use Rattle.serial_model.specs.declared.request.Request.{Request}
use Rattle.unit_table.specs.contracts.unit.Becoming as becoming_row
use Rattle.unit_table.specs.declared.unit.Becoming.{Becoming}
use Rattle.value_core.specs.Named.{Name}

-- Where the history left the turn: how many of its answers it knows, how many things the turn had made, and what its actor was to
-- become; its actor, while its begin is held; the requests that it holds behind that, in their order; and whether it waits until it is
-- definite and holds nothing.
pub record Ahead : Type 0 where
  pub answers : ℕ
  pub made : ℕ
  pub becomes : Option Becoming
  pub takes : Option Name
  pub held : List Request
  pub waits : Bool

-- it is stored as its parts
abbrev pub ahead_code : Coded Ahead
ahead_code =
    code_by (ℕ × (ℕ × (Option Becoming × (Option Name × (List Request × Bool)))))
    (coded× coded_ℕ (coded× coded_ℕ (coded× (coded_option (becoming_row.the_row).coded) (coded× (coded_option (coded_list coded_ℕ)) (coded× (coded_list (request_row.the_row).coded) coded_bool)))))
    (λ h. (h.answers, (h.made, (h.becomes, (h.takes, (h.held, h.waits))))))
    (λ p. record { answers = p.0; made = p.1.0; becomes = p.1.1.0; takes = p.1.1.1.0; held = p.1.1.1.1.0; waits = p.1.1.1.1.1 })
    (λ _. refl)
