use Rattle.std.proofs.Common.{◌∙◌, ◌≡◌, ◌≤◌, ◌++◌, ◌∷◌, [], ap, sym, subst, rules, length, arith}
use Rattle.shared_vector.proofs.Pieces.{joined-push, full-push}
use Rattle.shared_vector.specs.Pieces.{joined, AreFull}
use Rattle.shared_vector.proofs.shared_vector.SharedVector.push.Goals as goal

pub invariant_of-self-2 : goal.invariant_of-self-2
invariant_of-self-2 g c =
    let chunks : c.push.new.self ≡ c.self.inside.chunks ++ c.self.inside.last ∷ [] = search rules in
    let last : c.add-2.new.self ≡ c.args.item ∷ [] = search rules in
    let whole : length c.self.inside.last ≡ 32 = search rules in
    let room : length c.push.new.self ≤ 274877906944 = search rules in (
      subst AreFull (sym chunks) (full-push c.self.inside.chunks c.self.inside.last c.self.invariant.0 whole),
      room,
      subst (λ l. length l ≤ 32) (sym last) (omega arith),
    )

pub returns-clause-ok : goal.returns-clause-ok
returns-clause-ok g c =
    let chunks : c.push.new.self ≡ c.self.inside.chunks ++ c.self.inside.last ∷ [] = search rules in
    let last : c.add-2.new.self ≡ c.args.item ∷ [] = search rules in
    (λ i. joined (chunks i) ++ last i) ∙ ap (λ l. l ++ c.args.item ∷ []) (joined-push c.self.inside.chunks c.self.inside.last) ∙ ap (λ l. l ++ c.args.item ∷ []) c.self.view_is
