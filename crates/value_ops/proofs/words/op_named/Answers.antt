use Rattle.std.proofs.Common.{◌≡◌, refl, sym, ap, ◌∙◌, inl, inr, arith, get_or}
use Rattle.std.specs.Prelude.{nat_eq}
use lib.Pointwise.{pointwise}
use Rattle.std.proofs.lemmas.Bool.{cases_lt}
use Rattle.std.proofs.lemmas.List.{get_or_default}
use Rattle.std.proofs.lemmas.Cmp.{nat_list_eq_equiv}
use Rattle.value_ops.specs.declared.words.TheConstants.{ALL}
use Rattle.value_core.specs.primitives.Words.{op_word}
use Rattle.value_ops.proofs.OpPlaces.{no_op}
use Rattle.value_ops.proofs.words.op_named.Goals as goal

pub loop-op-preserved : goal.loop-op-preserved
loop-op-preserved c = record {
  table = refl;
  none = λ k d lt e. elim (cases_lt k c.loop-op.op-index) [
    | inl before ↦ c.loop-op.invariant.none k d before e
    | inr at ↦
        let here : k ≡ c.loop-op.op-index = omega arith in
        let word : c.word_of.result.now ≡ op_word (get_or ALL c.loop-op.op-index d) = c.word_of.ensures ∙ ap op_word (get_or_default ALL c.loop-op.op-index _ d c.loop-op-test.true) in
        let same = c.if-eq.ensures ∙ ap (λ w. pointwise nat_eq w c.args.word.now) (word ∙ ap (λ i. op_word (get_or ALL i d)) (sym here) ∙ e) ∙ nat_list_eq_equiv.refl c.args.word.now in
        cc
  ];
}

pub returns : goal.returns
returns c op e = no_op c.args.word.now (λ k d lt. let past = c.loop-op-test.false in c.loop-op.invariant.none k d (omega arith)) op e
