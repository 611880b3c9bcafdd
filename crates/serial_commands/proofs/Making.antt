-- What is owed to a made program that was written, and where there was no memory for it.
use Rattle.std.proofs.Common.{◌≡◌, ℕ, [], refl, inl, inr, arith}
use Rattle.program_maker.specs.MadeText.{made_text}
use Rattle.world_io.specs.Seen.{FilesSeen, SinkSeen}
use Rattle.world_io.proofs.TakenLemmas.{TookPrefix-none}
use Rattle.command_phases.specs.declared.outcome.Outcome.{Outcome}
use Rattle.command_phases.specs.declared.outcome.Detail.TheVariants.{Nothing}
use Rattle.command_phases.specs.LineWritten.{SaysLine}
use Rattle.command_phases.specs.Lines.{memory_line}
use Rattle.command_phases.specs.Seen.{seen}
use Rattle.command_phases.specs.Told.{IsTold}
use Rattle.command_phases.specs.Unrun.{IsUnrun}
use Rattle.command_phases.proofs.Statuses.{six_not_ended}
use Rattle.serial_commands.specs.MakeAnswers.{MakeAnswers}
use Rattle.serial_commands.proofs.Checking.{says_nothing}
use Rattle.serial_commands.proofs.Finishes.{not_written_six}

pub make_told : (number size : ℕ) (files : FilesSeen) (out out_after err : SinkSeen) (outcome : Outcome) → IsTold (made_text number size) out out_after outcome
    → MakeAnswers number size (seen files out err) (seen files out_after err) outcome
make_told number size files out out_after err outcome told = record {
  statuses = elim told.status [ inl z ↦ inl z | inr s ↦ inr (inl s) ];
  bytes_are_the_text = told.prefix;
  all_when_written = told.whole;
  complete = λ calm. elim told.status [ inl z ↦ inl z | inr s ↦ absurd (calm.out (told.fault s)) ];
  not_written = told.fault;
  failed_write = λ failed. elim told.status [
    | inl z ↦ absurd (elim failed [
      | inl o ↦ o (told.unfailed (λ s. omega (arith, z, s)))
      | inr rest ↦ elim rest [ inl e ↦ e refl | inr f ↦ f refl ]
    ])
    | inr s ↦ inr s
  ];
  no_entries = told.unrun.history;
  no_end = told.unrun.end;
  detail = told.unrun.detail;
  files = refl;
  idle = λ six. absurd (elim told.status [ inl z ↦ omega (arith, z, six) | inr s ↦ omega (arith, s, six) ]);
  says = says_nothing [] (seen files out err) (seen files out_after err) outcome told.status told.unrun refl;
}

pub make_without_memory : (number size : ℕ) (files : FilesSeen) (out err err_after : SinkSeen) (outcome : Outcome) → IsUnrun 6 Nothing outcome → SaysLine memory_line err err_after
    → MakeAnswers number size (seen files out err) (seen files out err_after) outcome
make_without_memory number size files out err err_after outcome unrun line =
    let six : outcome.status ≡ 6 = unrun.status in
    record {
      statuses = inr (inr six);
      bytes_are_the_text = TookPrefix-none out.taken out.taken (made_text number size) refl;
      all_when_written = λ written. absurd (not_written_six outcome.status out out six written);
      complete = λ calm. inr six;
      not_written = λ seven. absurd (omega (arith, six, seven));
      failed_write = λ failed. inl six;
      no_entries = unrun.history;
      no_end = unrun.end;
      detail = unrun.detail;
      files = refl;
      idle = λ is. record { history = unrun.history; end = unrun.end; printed = refl; files = record { held = refl; faults = refl } };
      says = record {
        unread = [];
        not_read = λ three. absurd (omega (arith, six, three));
        said = rw six line.said;
        said_at_most = rw six line.said_at_most;
        end_said = λ ended apart. absurd (six_not_ended (rw six at ended));
      };
    }
