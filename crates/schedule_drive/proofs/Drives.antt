-- What a drive appends.
use Rattle.std.proofs.Common.{◌≡◌, ◌∙◌, ◌++◌, ◌∷◌, [], Bool, true, false, List, sym, ap, append_assoc, append-nil}
use Rattle.schedule_drive.specs.Drive.{Abandons, Comes, Does, DoesIf, Drives, Stage, can_do}
use Rattle.schedule_drive.specs.Entries.{entries_told, entry_told}
use Rattle.schedule_drive.specs.Laws.{DriveAppends}
use Rattle.schedule_report.specs.declared.told.Told.{Told}
use Rattle.schedule_report.specs.declared.told.Told.TheVariants as told
use Rattle.schedule_text.specs.declared.line.Line.{Line}
use Rattle.schedule_text.specs.declared.line.Line.TheVariants as line
use Rattle.serial_model.specs.declared.entry.Entry.{Entry}
use Rattle.shared_world.proofs.Later.{gave-appends}
use Rattle.shared_world.specs.Later.{Appends}
use Rattle.shared_world.specs.Returned.{Returned}
use Rattle.shared_world.specs.Shared.{Shared}
use Rattle.value_core.specs.Named.{Named}

-- what is not touched but for claims
same_history : (old new : Shared) (board : _) → new ≡ record old { board = board } → Appends [] old new
same_history old new board is = record { setup = ap (λ (s : Shared). s.setup) is; history = ap (λ (s : Shared). s.history) is ∙ sym (append-nil old.history) }

-- one after the other
pub appends_more : (a b c : Shared) (first second : List Entry) → Appends first a b → Appends second b c → Appends (first ++ second) a c
appends_more a b c first second one two = record {
  setup = two.setup ∙ one.setup;
  history = two.history ∙ ap (λ es. es ++ second) one.history ∙ append_assoc a.history first second;
}

-- what a line appends
does_appends : (l : Line) (g : Stage) (said : Told) (h : Stage) → Does l g said h → Appends (entry_told said) g.world h.world
does_appends (line.Go name) g (told.Answered found) h does =
    appends_more g.world does.0.between h.world [] _ (same_history g.world does.0.between _ does.0.runs.claimed.claim.rest) (gave-appends does.0.between h.world does.0.done found does.0.gave)
does_appends (line.Go name) g told.Kept h does = absurd does
does_appends (line.Go name) g told.NotReady h does = absurd does
does_appends (line.Hold name) g told.Kept h does = same_history g.world h.world _ does.runs.claimed.claim.rest
does_appends (line.Hold name) g (told.Answered found) h does = absurd does
does_appends (line.Hold name) g told.NotReady h does = absurd does
does_appends (line.Back name) g (told.Answered found) h does = gave-appends g.world h.world does.done found does.gave
does_appends (line.Back name) g told.Kept h does = absurd does
does_appends (line.Back name) g told.NotReady h does = absurd does
does_appends (line.Turn name) g (told.Answered found) h does =
    appends_more g.world does.0.between h.world [] _ (same_history g.world does.0.between _ does.0.runs.claimed.claim.rest) (gave-appends does.0.between h.world does.0.done found does.0.gave)
does_appends (line.Turn name) g told.Kept h does = absurd does
does_appends (line.Turn name) g told.NotReady h does = absurd does

pub comes_appends : (l : Line) (g : Stage) (said : Told) (h : Stage) → Comes l g said h → Appends (entry_told said) g.world h.world
comes_appends l g said h comes = on (can_do l g) comes
  where
    on : (can : Bool) → DoesIf can l g said h → Appends (entry_told said) g.world h.world
    on true does = does_appends l g said h does
    on false none = record {
      setup = ap (λ (s : Stage). s.world.setup) none.1;
      history = ap (λ (s : Stage). s.world.history) none.1 ∙ sym (append-nil g.world.history) ∙ ap (λ t. g.world.history ++ entry_told t) (sym none.0);
    }

-- what the lines append
pub drives_append : (lines : List Line) (g : Stage) (all : List Told) (h : Stage) → Drives lines g all h → Appends (entries_told all) g.world h.world
drives_append [] g [] h is = record { setup = ap (λ (s : Stage). s.world.setup) is; history = ap (λ (s : Stage). s.world.history) is ∙ sym (append-nil g.world.history) }
drives_append [] g (said ∷ rest) h none = absurd none
drives_append (l ∷ lines) g [] h none = absurd none
drives_append (l ∷ lines) g (said ∷ rest) h drives =
    appends_more g.world drives.0.world h.world (entry_told said) (entries_told rest) (comes_appends l g said drives.0 drives.1) (drives_append lines drives.0 rest h drives.2)

abandons_append : (kept : Named Returned) (old new : Shared) → Abandons kept old new → Appends [] old new
abandons_append [] old new is = same_history old new _ is
abandons_append (e ∷ es) old new ends = appends_more old ends.0 new [] [] (same_history old ends.0 _ ends.1.unclaimed.rest) (abandons_append es ends.0 new ends.2)

-- a drive appends just the entries that its report tells of
pub drive_appends : DriveAppends
drive_appends lines old new all driven =
    let more = appends_more old driven.last.world new (entries_told all) [] (drives_append lines _ all driven.last driven.drives) (abandons_append driven.last.kept driven.last.world new driven.ends) in
    record { setup = more.setup; history = more.history ∙ ap (λ es. old.history ++ es) (append-nil (entries_told all)) }
