use Rattle.std.proofs.Common.{◌≡◌, ◌∙◌, ◌∷◌, [], List, length, refl, subst, sym}
use Rattle.std.specs.Vec.Iter.{into_iter_items}
use Rattle.attempt_sends.proofs.Puts.{ArePutting, all-put, first-room, putting-next}
use Rattle.attempt_sends.specs.declared.letters.Letter.{Letter}
use Rattle.attempt_sends.proofs.putting.put_sends.Goals as goal

pub put_or_keep-requires : goal.put_or_keep-requires
put_or_keep-requires c = record {
  room = first-room c.in-Some.letter (into_iter_items c.next.new.self) c.loop-letter.kept (subst (λ (ls : List Letter). ArePutting c.args.kept.now c.loop-letter.kept c.args.letters.items ls) c.in-Some.ensures.steps.0 c.loop-letter.invariant);
}

pub loop-letter-preserved : goal.loop-letter-preserved
loop-letter-preserved c =
    putting-next c.args.kept.now c.loop-letter.kept c.put_or_keep.new.kept c.args.letters.items (into_iter_items c.next.new.self) c.in-Some.letter
    (subst (λ (ls : List Letter). ArePutting c.args.kept.now c.loop-letter.kept c.args.letters.items ls) c.in-Some.ensures.steps.0 c.loop-letter.invariant)
    c.put_or_keep.ensures.put c.put_or_keep.ensures.others c.put_or_keep.ensures.less c.put_or_keep.ensures.kept c.put_or_keep.ensures.claims c.put_or_keep.ensures.places c.put_or_keep.ensures.actors

none-left : (ls : List Letter) → length ls ≡ 0 → ls ≡ []
none-left [] is = refl
none-left (l ∷ ls) is = cc

pub returns-clause-put : goal.returns-clause-put
returns-clause-put c =
    let it = c.loop-letter.letter-iterator in
    all-put c.args.kept.now c.loop-letter.kept c.args.letters.items (subst (λ (ls : List Letter). ArePutting c.args.kept.now c.loop-letter.kept c.args.letters.items ls) (none-left (into_iter_items it) (sym it.rest.ok.0 ∙ c.in-None.ensures.steps.0)) c.loop-letter.invariant)
