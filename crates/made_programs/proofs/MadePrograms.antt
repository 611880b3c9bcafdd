-- Each text that is made is a program.
use Rattle.std.proofs.Common.{◌<◌, ◌≤◌, ℕ, ◌^◌, arith, sym, subst}
use Rattle.core_syntax.specs.Table.{Table}
use Rattle.scope_check.specs.Check.{IsProgram, tops_in}
use Rattle.program_plan.specs.Planned.{IsPlanned}
use Rattle.program_maker.specs.MadeText.{made_text}
use Rattle.command_phases.specs.Program.{IsProgramOf}
use Rattle.made_programs.proofs.Assembled.{ListPlaces, no_wrong, placed_list, ten_globals, tops_are}
use Rattle.made_programs.proofs.Likes.{list_somewhere}
use Rattle.made_programs.proofs.MadeSource.{made_source}
use Rattle.made_programs.proofs.MadeTrees.{made_trees}
use Rattle.made_programs.proofs.Planning.{planned}

placed_program : (number size : ℕ) (small : size < 2 ^ 63) (q : ListPlaces (made_trees number size small)) → size ≤ 10000
    → (table : Table) × IsProgram (placed_list (made_trees number size small) q) table
placed_program number size small q at_most =
    let plan = planned number size small q at_most in
    let forms = placed_list (made_trees number size small) q in
    let tops = subst (λ ts. IsPlanned ts 10 plan.0) (sym (tops_are number size small q)) plan.1 in
    (plan.0, record { nothing_wrong = no_wrong number size small q; planned = subst (λ n. IsPlanned (tops_in forms) n plan.0) (sym (ten_globals number size small q)) tops })

pub made_program : (number size : ℕ) → size ≤ 10000 → (table : Table) × IsProgramOf (made_text number size) table
made_program number size at_most =
    let small : size < 2 ^ 63 = omega (arith, at_most) in
    let made = made_source number size at_most small in
    let there = list_somewhere (made_trees number size small) made.forms made.same in
    let program = placed_program number size small there.places at_most in
    (program.0, record { forms = made.forms; source = made.source; scope = subst (λ fs. IsProgram fs program.0) (sym there.are) program.1 })
