use Rattle.schedule_drive.proofs.Drives as lemmas
use Rattle.schedule_drive.proofs.laws.drive_appends.Goals as goal

pub returns : goal.returns
returns c = lemmas.drive_appends
