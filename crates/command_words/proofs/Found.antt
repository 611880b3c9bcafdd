-- From what the parser found to the command that the words say.
use Rattle.std.proofs.Common.{◌≡◌, ◌≢◌, List, [], ◌∷◌, map, true, false, ◌&&◌, refl, sym, subst, ap, ◌∙◌, Option, None, Result, Ok, Err, String, Global, IsErrAnd}
use Rattle.std.specs.List.{list_all}
use Rattle.std.specs.String.{string_bytes}
use Rattle.clap.specs.Walk.{Row}
use Rattle.clap.specs.Simple.{subcommand_of}
use Rattle.clap.specs.Faults.{fault_of}
use Rattle.said_values.specs.Values.{Word}
use Rattle.said_commands.specs.declared.command.Command.{Command}
use Rattle.said_commands.specs.declared.words_no.WordsNo.{WordsNo}
use Rattle.said_commands.specs.declared.words_no.WordsNo.TheVariants.{Usage, Memory}
use Rattle.said_commands.specs.Said.{Reads, command_named, found_command}
use Rattle.command_words.specs.Said.{command_of}
use Rattle.command_words.specs.Parser.{is_readable, told}
use Rattle.command_words.proofs.Turns.{Fails}
use Rattle.command_words.proofs.Top.{Parses, first_given, parses, refused, taken}
use Rattle.command_words.proofs.Refused.{unreadable_refused}

abbrev texts : List (String Global) → List Word
texts words = map string_bytes words

all_readable : (words : List (String Global)) → list_all is_readable (texts words) ≡ list_all (λ word. is_readable (string_bytes word)) words
all_readable [] = refl
all_readable (w ∷ words) = ap (λ b. is_readable (string_bytes w) && b) (all_readable words)

pub unread_refused : (words : List (String Global)) → list_all (λ word. is_readable (string_bytes word)) words ≡ false → command_of (texts words) ≡ None
unread_refused words unread = unreadable_refused (texts words) (all_readable words ∙ unread)

module _ (words : List (String Global)) (readable : list_all (λ word. is_readable (string_bytes word)) words ≡ true) where
  parsed : Parses (texts words)
  parsed = parses (texts words) (all_readable words ∙ readable)

  said_by_parser : (rows : Option (Word × List Row)) → fault_of told (texts words) ≡ [] → rows ≡ subcommand_of told (texts words) → found_command rows ≡ command_of (texts words)
  said_by_parser rows none is = go parsed
    where
      go : Parses (texts words) → found_command rows ≡ command_of (texts words)
      go (refused faulty unsaid) = absurd (subst Fails none faulty)
      go (taken title given passes sub said) =
          ap found_command (is ∙ sub) ∙ ap (command_named title) (λ i. λ name. first_given name given i) ∙ sym said

  pub reads_said : (rows : Option (Word × List Row)) (r : Result Command WordsNo) → (fault_of told (texts words) ≡ []) × (rows ≡ subcommand_of told (texts words))
      → Reads (found_command rows) r → Reads (command_of (texts words)) r
  reads_said rows r known h = subst (λ o. Reads o r) (said_by_parser rows known.0 known.1) h

  unsaid_if : fault_of told (texts words) ≢ [] → command_of (texts words) ≡ None
  unsaid_if faulty = go parsed
    where
      go : Parses (texts words) → command_of (texts words) ≡ None
      go (refused fails unsaid) = unsaid
      go (taken title given passes sub said) = absurd (faulty passes)

  pub reads_refusal : (refusal : WordsNo) (r : Result Command WordsNo) → (refusal ≡ Usage → fault_of told (texts words) ≢ []) → IsErrAnd r (λ e. e ≡ refusal) → Reads (command_of (texts words)) r
  reads_refusal refusal (Ok command) why is = absurd is
  reads_refusal refusal (Err Usage) why is = unsaid_if (why (sym is))
  reads_refusal refusal (Err Memory) why is = tt
