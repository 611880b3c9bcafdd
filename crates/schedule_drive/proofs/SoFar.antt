-- A drive that is under way.
use Rattle.std.proofs.Common.{◌≡◌, ◌∙◌, ◌++◌, ◌∷◌, ◌+◌, [], ℕ, suc, List, Result, Ok, Err, arith, length, inl, inr, refl, sym, ap, subst, append_assoc, append-nil}
use Rattle.std.specs.Prelude.{OnErr}
use Rattle.core_syntax.specs.Table.{Table}
use Rattle.schedule_drive.proofs.Drives.{appends_more, comes_appends, drives_append}
use Rattle.schedule_drive.specs.Drive.{Comes, Drives, IsLater, Stage}
use Rattle.schedule_drive.specs.Entries.{entries_told, entry_told}
use Rattle.schedule_report.specs.Report.{report_from, report_line}
use Rattle.schedule_drive.specs.UnderWay.{AreOf, IsDrivenSo, stage}
use Rattle.schedule_report.specs.declared.told.Told.{Told}
use Rattle.schedule_text.specs.declared.line.Line.{Line}
use Rattle.shared_world.specs.Returned.{Returned}
use Rattle.shared_world.specs.Shared.{Shared}
use Rattle.value_core.proofs.NamedLaws.{found_in}
use Rattle.value_core.specs.Named.{Name, Named, named, with_named}

-- a drive of one line more
pub drives_more : (lines : List Line) (l : Line) (g h i : Stage) (all : List Told) (said : Told) → Drives lines g all h → Comes l h said i → Drives (lines ++ l ∷ []) g (all ++ said ∷ []) i
drives_more [] l g h i [] said is comes = (i, subst_stage (sym is), refl)
  where
    subst_stage : g ≡ h → Comes l g said i
    subst_stage same = subst (λ s. Comes l s said i) (sym same) comes
drives_more [] l g h i (other ∷ all) said none comes = absurd none
drives_more (first ∷ lines) l g h i [] said none comes = absurd none
drives_more (first ∷ lines) l g h i (other ∷ all) said drives comes = (drives.0, drives.1, drives_more lines l drives.0 h i all said drives.2 comes)

-- as much is told as there are lines
pub drives_length : (lines : List Line) (g : Stage) (all : List Told) (h : Stage) → Drives lines g all h → length all ≡ length lines
drives_length [] g [] h is = refl
drives_length [] g (said ∷ rest) h none = absurd none
drives_length (l ∷ lines) g [] h none = absurd none
drives_length (l ∷ lines) g (said ∷ rest) h drives = ap suc (drives_length lines drives.0 rest h drives.2)

-- the report of one line more
report_more : (number : ℕ) (all : List Told) (said : Told) → report_from number (all ++ said ∷ []) ≡ report_from number all ++ report_line (number + length all) said
report_more number [] said = append-nil (report_line number said) ∙ ap (λ n. report_line n said) (omega arith)
report_more number (first ∷ all) said =
    ap (λ text. report_line number first ++ text) (report_more (number + 1) all said)
    ∙ sym (append_assoc (report_line number first) (report_from (number + 1) all) (report_line (number + 1 + length all) said))
    ∙ ap (λ n. (report_line number first ++ report_from (number + 1) all) ++ report_line n said) (omega arith)

-- the drive so far, with one line more
pub so_far_more : (lines taken : List Line) (l : Line) (old here new : Shared) (text : List ℕ) (kept kept_2 : Named Returned) (number : ℕ) (said : Told) → IsDrivenSo lines old text here kept
    → number ≡ length lines + 1 → taken ≡ lines ++ l ∷ [] → Comes l (stage here kept) said (stage new kept_2) → IsDrivenSo taken old (text ++ report_line number said) new kept_2
so_far_more lines taken l old here new text kept kept_2 number said so numbered is comes = record {
  all = so.all ++ said ∷ [];
  drives = subst (λ ls. Drives ls (stage old []) (so.all ++ said ∷ []) (stage new kept_2)) (sym is) (drives_more lines l (stage old []) (stage here kept) (stage new kept_2) so.all said so.drives comes);
  spelled =
      let place : 1 + length so.all ≡ number = omega (arith, numbered, drives_length lines (stage old []) so.all (stage here kept) so.drives) in
      ap (λ t. t ++ report_line number said) so.spelled ∙ sym (report_more 1 so.all said ∙ ap (λ n. report_from 1 so.all ++ report_line n said) place);
}

-- what is later than where the drive has come to is later than where it began
pub later_more : (lines : List Line) (old here new : Shared) (text : List ℕ) (kept : Named Returned) → IsDrivenSo lines old text here kept → IsLater here new → IsLater old new
later_more lines old here new text kept so later = record {
  entries = entries_told so.all ++ later.entries;
  appends = appends_more old here new (entries_told so.all) later.entries (drives_append lines (stage old []) so.all (stage here kept) so.drives) later.appends;
}

pub so_far_later : (lines : List Line) (old here : Shared) (text : List ℕ) (kept : Named Returned) → IsDrivenSo lines old text here kept → IsLater old here
so_far_later lines old here text kept so = record { entries = entries_told so.all; appends = drives_append lines (stage old []) so.all (stage here kept) so.drives }

pub comes_later : (l : Line) (g : Stage) (said : Told) (h : Stage) → Comes l g said h → IsLater g.world h.world
comes_later l g said h comes = record { entries = entry_told said; appends = comes_appends l g said h comes }

pub setup_later : (old new : Shared) → IsLater old new → new.setup ≡ old.setup
setup_later old new later = later.appends.setup

-- a result that is kept too is of the program
pub of_put : (program : Table) (kept kept_2 : Named Returned) (name : Name) (done : Returned) → AreOf program kept → done.program ≡ program → kept_2 ≡ with_named kept name done → AreOf program kept_2
of_put program kept kept_2 name done of is put q found there = elim (found_in q name done found kept (sym (ap (named q) put) ∙ there)) [
  | inl here ↦ ap (λ (r : Returned). r.program) here.1 ∙ is
  | inr other ↦ of q found other
]

pub on_err : {A E P : Type 0} (r : Result A E) → P → OnErr r P
on_err (Ok a) p = tt
on_err (Err e) p = p
