-- What a command line says to be the size of a made program is one of which programs are made.
use Rattle.std.proofs.Common.{◌≡◌, ◌≤◌, ℕ, Bool, true, false, ◌&&◌, if◌then◌else◌, List, [], ◌∷◌, refl, subst, arith}
use Rattle.std.specs.Prelude.{Option, None, Some, IfSome, codes, nat_le, option_and_then, option_map}
use Rattle.std.specs.Str.{bytes_eq}
use Rattle.std.proofs.lemmas.Bool.{and_parts}
use Rattle.std.proofs.lemmas.Bool.Decides.{nat_tests}
use Rattle.serial_model.specs.Limits.{Budget}
use Rattle.said_values.specs.Number.{number_of}
use Rattle.said_values.specs.Values.{limits_of, made_of, number_between, within, Word, workers_of}
use Rattle.command_words.specs.Reading.{Form, given_of, value_of}
use Rattle.said_commands.specs.Said.{check_of, make_of, replay_of, run_of, schedule_of, stress_of}
use Rattle.command_words.specs.Said.{command_of, said_by, run_form, schedule_form, replay_form, check_form, make_form, stress_form}
use Rattle.said_commands.specs.declared.command.Command.{Command}
use Rattle.said_commands.specs.declared.command.Command.TheVariants.{Run, Schedule, Replay, Check, Make, Stress}

-- what comes of an option, where it comes of each
on_each : {A B : Type 0} (P : A → Type 0) (Q : B → Type 0) (f : A → Option B) (o : Option A) → IfSome o P → ((a : A) → P a → IfSome (f a) Q) → IfSome (option_and_then f o) Q
on_each P Q f None h each = tt
on_each P Q f (Some a) h each = each a h

mapped : {A B : Type 0} (P : A → Type 0) (Q : B → Type 0) (f : A → B) (o : Option A) → IfSome o P → ((a : A) → P a → Q (f a)) → IfSome (option_map f o) Q
mapped P Q f None h each = tt
mapped P Q f (Some a) h each = each a h

any : {A : Type 0} (o : Option A) → IfSome o (λ a. Unit {0})
any None = tt
any (Some a) = tt

-- a size that is said is at most 10,000
abbrev Fits : Command → Type 0
Fits (Stress number size workers) = size ≤ 10000
Fits _ = Unit {0}

within_most : (least most n : ℕ) → IfSome (within least most n) (λ m. m ≤ most)
within_most least most n = by (nat_le least n && nat_le n most) refl where
  small : nat_le n most ≡ true → n ≤ most
  small e = grind (arith, nat_tests)

  by : (b : Bool) → (nat_le least n && nat_le n most) ≡ b → IfSome (if b then Some n else None) (λ m. m ≤ most)
  by false e = tt
  by true e = small (and_parts (nat_le least n) (nat_le n most) e).1

between_most : (least most : ℕ) (value : Option Word) → IfSome (number_between least most value) (λ m. m ≤ most)
between_most least most value =
    on_each (λ (text : Word). Unit {0}) (λ m. m ≤ most) (λ text. option_and_then (within least most) (number_of text)) value (any value)
    (λ text h. on_each (λ (n : ℕ). Unit {0}) (λ m. m ≤ most) (within least most) (number_of text) (any (number_of text)) (λ n h. within_most least most n))

made_fits : (given : Word → Option Word) → IfSome (made_of given) (λ (made : ℕ × ℕ). made.1 ≤ 10000)
made_fits given =
    let size = number_between 1 10000 (given (codes "size")) in
    let number = number_between 0 2147483647 (given (codes "number")) in
    on_each (λ (n : ℕ). Unit {0}) (λ (made : ℕ × ℕ). made.1 ≤ 10000) (λ number. option_map (λ size. (number, size)) size) number (any number)
    (λ n h. mapped (λ m. m ≤ 10000) (λ (made : ℕ × ℕ). made.1 ≤ 10000) (λ size. (n, size)) size (between_most 1 10000 (given (codes "size"))) (λ m le. le))

stress_fits : (given : Word → Option Word) → IfSome (stress_of given) Fits
stress_fits given =
    let workers = workers_of (given (codes "workers")) in
    on_each (λ (made : ℕ × ℕ). made.1 ≤ 10000) Fits (λ (made : ℕ × ℕ). option_map (Stress made.0 made.1) workers) (made_of given) (made_fits given)
    (λ made le. mapped (λ (n : ℕ). Unit {0}) Fits (Stress made.0 made.1) workers (any workers) (λ n h. le))

make_fits : (given : Word → Option Word) → IfSome (make_of given) Fits
make_fits given = mapped (λ (made : ℕ × ℕ). Unit {0}) Fits (λ made. Make made.0 made.1) (made_of given) (any (made_of given)) (λ made h. tt)

check_fits : (given : Word → Option Word) → IfSome (check_of given) Fits
check_fits given = mapped (λ (file : Word). Unit {0}) Fits Check (given (codes "file")) (any (given (codes "file"))) (λ file h. tt)

replay_fits : (given : Word → Option Word) → IfSome (replay_of given) Fits
replay_fits given =
    on_each (λ (file : Word). Unit {0}) Fits (λ file. option_map (Replay file) (given (codes "trace"))) (given (codes "file")) (any (given (codes "file")))
    (λ file h. mapped (λ (trace : Word). Unit {0}) Fits (Replay file) (given (codes "trace")) (any (given (codes "trace"))) (λ trace h. tt))

run_fits : (given : Word → Option Word) → IfSome (run_of given) Fits
run_fits given =
    let workers = workers_of (given (codes "workers")) in
    on_each (λ (file : Word). Unit {0}) Fits (λ file. option_and_then (λ workers. option_map (λ limits. Run file workers limits (given (codes "trace"))) (limits_of given)) workers)
    (given (codes "file")) (any (given (codes "file")))
    (λ file h. on_each (λ (n : ℕ). Unit {0}) Fits (λ workers. option_map (λ limits. Run file workers limits (given (codes "trace"))) (limits_of given)) workers (any workers)
    (λ n h. mapped (λ (limits : Budget). Unit {0}) Fits (λ limits. Run file n limits (given (codes "trace"))) (limits_of given) (any (limits_of given)) (λ limits h. tt)))

schedule_fits : (given : Word → Option Word) → IfSome (schedule_of given) Fits
schedule_fits given =
    on_each (λ (file : Word). Unit {0}) Fits
    (λ file. option_and_then (λ schedule. option_map (λ limits. Schedule file schedule limits (given (codes "trace"))) (limits_of given)) (given (codes "schedule")))
    (given (codes "file")) (any (given (codes "file")))
    (λ file h. on_each (λ (schedule : Word). Unit {0}) Fits (λ schedule. option_map (λ limits. Schedule file schedule limits (given (codes "trace"))) (limits_of given))
    (given (codes "schedule")) (any (given (codes "schedule")))
    (λ schedule h. mapped (λ (limits : Budget). Unit {0}) Fits (λ limits. Schedule file schedule limits (given (codes "trace"))) (limits_of given) (any (limits_of given)) (λ limits h. tt)))

said_fits : (form : Form) (command : (Word → Option Word) → Option Command) (words : List Word) → ((given : Word → Option Word) → IfSome (command given) Fits) → IfSome (said_by form command words) Fits
said_fits form command words each = on_each (λ _. Unit {0}) Fits (λ given. command (value_of given)) (given_of form words) (any (given_of form words)) (λ given h. each (value_of given))

either : (b : Bool) (x y : Option Command) → IfSome x Fits → IfSome y Fits → IfSome (if b then x else y) Fits
either true x y first second = first
either false x y first second = second

all_fit : (words : List Word) → IfSome (command_of words) Fits
all_fit [] = tt
all_fit (name ∷ words) =
    either (bytes_eq (codes "run") name) _ _ (said_fits run_form run_of words run_fits)
    (either (bytes_eq (codes "schedule") name) _ _ (said_fits schedule_form schedule_of words schedule_fits)
    (either (bytes_eq (codes "replay") name) _ _ (said_fits replay_form replay_of words replay_fits)
    (either (bytes_eq (codes "check") name) _ _ (said_fits check_form check_of words check_fits)
    (either (bytes_eq (codes "make") name) _ _ (said_fits make_form make_of words make_fits)
    (either (bytes_eq (codes "stress") name) _ _ (said_fits stress_form stress_of words stress_fits) tt)))))

pub stress_size : (words : List Word) (number size workers : ℕ) → command_of words ≡ Some (Stress number size workers) → size ≤ 10000
stress_size words number size workers is = subst (λ c. IfSome c Fits) is (all_fit words)
