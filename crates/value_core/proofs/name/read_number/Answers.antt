use Rattle.std.proofs.Common.{◌≡◌, sym, ap, ◌∙◌, min, arith}
use Rattle.std.specs.Fmt.{decimal}
use Rattle.std.specs.Prelude.{nat_eq}
use lib.Pointwise.{pointwise}
use Rattle.std.proofs.lemmas.Cmp.{nat_list_eq_equiv}
use Rattle.value_core.specs.NameText.{read_on}
use Rattle.value_core.proofs.Names.{read_on-decimal}
use Rattle.value_core.proofs.name.read_number.Goals as goal

-- if the bytes were the number's, they would be what is written again
pub returns-else-eq-clause-none : goal.returns-else-eq-clause-none
returns-else-eq-clause-none c none n small spelled =
    let capped : min n 4294967295 ≡ n = omega arith in
    let value : c.digits_value-number.result ≡ n = c.digits_value-number.ensures ∙ ap (λ b. min (read_on 0 b) 4294967295) (sym spelled) ∙ ap (λ m. min m 4294967295) (read_on-decimal n small) ∙ capped in
    let again = c.as_bytes.ensures.value ∙ c.format.ensures.text ∙ ap decimal value ∙ spelled in
    let same = c.if-eq.ensures ∙ ap (λ b. pointwise nat_eq b c.args.bytes.now) again ∙ nat_list_eq_equiv.refl c.args.bytes.now in
    cc
