-- What a change of an ordered map at one name leaves at each.
use Rattle.std.proofs.Common.{◌≡◌, inl, inr, ℕ, Bool, true, false, List, Option, sym, ◌∙◌, subst}
use Rattle.std.specs.BTreeMap as tree
use Rattle.std.specs.BTreeMap.{BTreeMap}
use Rattle.std.specs.Cmp.{eq_by_cmp_equiv}
use Rattle.std.specs.Cmp.Lexicographic.{slice_cmp, bytes_decides, nat_list_cmp_total, nat_list_eq_equiv}
use Rattle.std.specs.Global.{Vec}
use Rattle.std.specs.Map.{lookup, update, KeepsOthers, IsKeyTest, AreApart}
use Rattle.std.specs.Ordering.{is_eq, nat_cmp}
use Rattle.std.specs.Str.{bytes_eq}
use Rattle.std.proofs.lemmas.Bool.{cases_Bool, cond-true, cond-false}
use Rattle.std.proofs.lemmas.Map.Text.{is_eq-slice_cmp}
use Rattle.scope_locals.specs.ByName.{at_name}

apart : (bs cs ks : List ℕ) → bytes_eq bs cs ≡ false → is_eq (slice_cmp nat_cmp bs ks) ≡ true → is_eq (slice_cmp nat_cmp cs ks) ≡ false
apart bs cs ks differ same =
    let same_bytes : bytes_eq bs ks ≡ true = sym (is_eq-slice_cmp bs ks) ∙ same in
    is_eq-slice_cmp cs ks ∙ nat_list_eq_equiv.symm cs ks ∙ sym (nat_list_eq_equiv.congr bs ks cs same_bytes) ∙ differ

others_kept : {K X : Type 0} (eq : K → K → Bool) (test : K → Bool) (old new : List (K × X)) → KeepsOthers eq test old new → (other : K → Bool) → IsKeyTest eq other → AreApart test other → lookup other new ≡ lookup other old
unfolding KeepsOthers
others_kept eq test old new h = h

pub changed_at : {X : Type 0} (name : List ℕ) (old new : BTreeMap (Vec ℕ) X) (value : Option X)
    → tree.UpdatesBy (λ x y. slice_cmp nat_cmp x.items y.items) (λ key. slice_cmp nat_cmp name key.items) old new value
    → (other : List ℕ) → at_name new other ≡ update bytes_eq (at_name old) name value other
changed_at name old new value updates other =
    elim (cases_Bool (bytes_eq name other)) [
      | inl same ↦ subst (λ (n : List ℕ). at_name new n ≡ value) ((bytes_decides name other).0 same) updates.1 ∙ sym (cond-true (bytes_eq name other) value (at_name old other) same)
      | inr differ ↦ others_kept _ _ _ _ updates.3 _ (λ x y. (eq_by_cmp_equiv nat_list_cmp_total).congr other x.items y.items) (λ key. apart name other key.items differ)
          ∙ sym (cond-false (bytes_eq name other) value (at_name old other) differ)
    ]
