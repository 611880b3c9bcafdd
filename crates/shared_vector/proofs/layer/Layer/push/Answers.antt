use Rattle.std.proofs.Common.{◌∙◌, ◌≡◌, ◌≤◌, ◌<◌, ◌++◌, ◌∷◌, [], ap, sym, subst, rules, length, length-append, arith}
use Rattle.std.proofs.lemmas.Result.{on_ok_weaker}
use Rattle.shared_vector.proofs.Pieces.{few_items, full-push, joined-push}
use Rattle.shared_vector.specs.Pieces.{joined, AreFull}
use Rattle.shared_vector.proofs.layer.Layer.push.Goals as goal

pub invariant_of-self-2 : goal.invariant_of-self-2
invariant_of-self-2 g c =
    let full : c.add-3.new.self ≡ c.self.inside.full ++ c.self.inside.rest ∷ [] = search rules in
    let rest : c.add-2.new.self ≡ c.args.item ∷ [] = search rules in
    let whole : length c.self.inside.rest ≡ 32 = search rules in
    let room : length (c.self.inside.full ++ c.self.inside.rest ∷ []) ≤ 4294967296 = search (rules, length-append) in (
      subst AreFull (sym full) (full-push c.self.inside.full c.self.inside.rest c.self.invariant.0 whole),
      subst (λ l. length l ≤ 4294967296) (sym full) room,
      subst (λ l. length l ≤ 32) (sym rest) (omega arith),
    )

pub returns-clause-ok : goal.returns-clause-ok
returns-clause-ok g c =
    let full : c.add-3.new.self ≡ c.self.inside.full ++ c.self.inside.rest ∷ [] = search rules in
    let rest : c.add-2.new.self ≡ c.args.item ∷ [] = search rules in
    (λ i. joined (full i) ++ rest i) ∙ ap (λ l. l ++ c.args.item ∷ []) (joined-push c.self.inside.full c.self.inside.rest) ∙ ap (λ l. l ++ c.args.item ∷ []) c.self.view_is

pub returns-then-items-lt-PIECE-clause-bound : goal.returns-then-items-lt-PIECE-clause-bound
returns-then-items-lt-PIECE-clause-bound g c =
    let less : length c.self.inside.rest < 32 = search rules in
    on_ok_weaker c.add.result (λ is. few_items c.self.inside.full c.add.new.self (
      c.self.invariant.0,
      c.self.invariant.1,
      subst (λ l. length l ≤ 32) (sym is) (let more = length-append c.self.inside.rest (c.args.item ∷ []) in omega (arith, more, less)),
    )) c.add.ensures.ok

pub returns-clause-bound : goal.returns-clause-bound
returns-clause-bound g c = few_items c.add-3.new.self c.add-2.new.self (invariant_of-self-2 g c)
