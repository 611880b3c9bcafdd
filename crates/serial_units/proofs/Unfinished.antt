-- Which units are unfinished after a change.
use Rattle.std.proofs.Common.{◌≡◌, ◌∙◌, Bool, true, false, refl, sym, ap, subst, Some, None}
use Rattle.std.specs.Prelude.{not, is_some}
use Rattle.std.specs.BTreeMap.{BTreeMap, WritesThrough}
use Rattle.std.specs.BTreeSet.{BTreeSet}
use Rattle.value_core.specs.Name.{after_cmp}
use Rattle.value_core.specs.declared.value.Value.{Value}
use Rattle.value_core.specs.Named.{Name, Named, named, with_named, same_name}
use Rattle.value_core.proofs.NamedLaws.{named-here, same_name-equal}
use Rattle.serial_units.specs.declared.unit.Unit.{Unit}
use Rattle.value_core.specs.NameSet.{holds_at, HasJust}
use Rattle.serial_units.specs.Units.{is_unfinished, IsFinishedIn, SameUnfinished}
use Rattle.value_core.proofs.NameMaps.{written_is_put}
use Rattle.value_core.proofs.NameMarks.{agree_put, agree_same}

-- a unit that is changed, but for its value, is unfinished as before
pub written_unfinished : (name : Name) (old new : BTreeMap Name Unit) (w y : Unit) → WritesThrough after_cmp (after_cmp name) old w new → named name old.entries ≡ Some y → w.value ≡ y.value
    → SameUnfinished old.entries new.entries
written_unfinished name old new w y writes there same q = on (same_name q name) refl
  where
    put : new.entries ≡ with_named old.entries name w
    put = written_is_put name old new w y writes there

    here : holds_at is_unfinished (named name new.entries) ≡ holds_at is_unfinished (named name old.entries)
    here = ap (λ es. holds_at is_unfinished (named name es)) put ∙ ap (holds_at is_unfinished) (named-here name w old.entries) ∙ ap (λ v. not (is_some v)) same ∙ ap (holds_at is_unfinished) (sym there)

    on : (b : Bool) → same_name q name ≡ b → holds_at is_unfinished (named q new.entries) ≡ holds_at is_unfinished (named q old.entries)
    on true is = subst (λ n. holds_at is_unfinished (named n new.entries) ≡ holds_at is_unfinished (named n old.entries)) (sym (same_name-equal q name is)) here
    on false apart = ap (holds_at is_unfinished) (agree_put name w old.entries new.entries put q apart)

pub nothing_unfinished : (old new : BTreeMap Name Unit) → new ≡ old → SameUnfinished old.entries new.entries
nothing_unfinished old new same q = ap (λ (m : BTreeMap Name Unit). holds_at is_unfinished (named q m.entries)) same

-- the set stays where the same units are unfinished
pub still_just : (old new : Named Unit) (set : BTreeSet Name) → HasJust is_unfinished set old → SameUnfinished old new → HasJust is_unfinished set new
still_just old new set just same q = just q ∙ sym (same q)

-- a unit that is given its value is finished
pub written_finished : (name : Name) (old new : BTreeMap Name Unit) (w y : Unit) (v : Value) → WritesThrough after_cmp (after_cmp name) old w new → named name old.entries ≡ Some y → w ≡ record y { value = Some v }
    → IsFinishedIn name old.entries new.entries
written_finished name old new w y v writes there is = record {
  finished = ap (holds_at is_unfinished) (ap (named name) put ∙ named-here name w old.entries) ∙ ap is_unfinished is;
  others = agree_put name w old.entries new.entries put;
}
  where
    put : new.entries ≡ with_named old.entries name w
    put = written_is_put name old new w y writes there

pub finished_nowhere : (name : Name) (old new : BTreeMap Name Unit) → new ≡ old → named name old.entries ≡ None → IsFinishedIn name old.entries new.entries
finished_nowhere name old new same none = record {
  finished = ap (λ (m : BTreeMap Name Unit). holds_at is_unfinished (named name m.entries)) same ∙ ap (holds_at is_unfinished) none;
  others = agree_same name old.entries new.entries (ap (λ (m : BTreeMap Name Unit). m.entries) same);
}
