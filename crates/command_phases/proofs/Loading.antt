-- What the causes of the answers to a load rule out.
use Rattle.std.proofs.Common.{◌≡◌, ◌≢◌, ℕ, List, refl, sym, ◌∙◌, ap, subst, inl, inr}
use Rattle.std.specs.Prelude.{◌⊎◌, Option, None, Some, Result, Ok, Err}
use Rattle.value_core.specs.Place.{Spot}
use Rattle.sexpr_reader.specs.Cursor.{start}
use Rattle.sexpr_reader.specs.declared.error.ReadKind.{ReadKind}
use Rattle.sexpr_reader.specs.declared.error.ReadKind.TheVariants as read_kind
use Rattle.sexpr_reader.specs.declared.form.Form.{Form}
use Rattle.sexpr_reader.specs.Grammar.{IsSource, IsRefused}
use Rattle.sexpr_reader.proofs.Never.{never_both as spelled_never}
use Rattle.sexpr_reader.proofs.Refusals.{one_refusal}
use Rattle.sexpr_reader.proofs.Unique.{one_spelling}
use Rattle.sexpr_reader.specs.declared.source.TheConstants.{SOURCE_LIMIT}
use Rattle.core_syntax.specs.Table.{Table}
use Rattle.scope_refusals.specs.declared.kind.ScopeKind.{ScopeKind}
use Rattle.scope_check.specs.Check.{IsProgram, IsRefused as IsScopeRefused}
use Rattle.scope_check.proofs.Agreement.{refusal_once, never_both as scope_never, once as program_once}
use Rattle.world_io.specs.Counts.{Rose}
use Rattle.world_io.specs.Held.{told, IsHeld, ExceedsLimit}
use Rattle.world_io.specs.Seen.{FilesSeen}
use Rattle.command_phases.specs.declared.fetch.Fetched.{Fetched}
use Rattle.command_phases.specs.declared.fetch.Fetched.TheVariants.{Bytes, TooLong}
use Rattle.command_phases.specs.declared.load.LoadNo.{LoadNo}
use Rattle.command_phases.specs.declared.load.LoadNo.TheVariants.{NotRead, Refused, OutOfScope, Memory}
use Rattle.command_phases.specs.Fetch.{Fetches, NoReadFailed}
use Rattle.command_phases.specs.Program.{IsProgramOf}
use Rattle.command_phases.specs.Load.{IsDue, IsLoaded, IsOutOfScope, IsScopeDue, Loads, GivesFile}
use Rattle.command_phases.specs.Outcome.{load_status, load_detail, refused_as, out_of_scope}

-- what is so of the bytes held, and what of a file over the limit
due_of : (found : Option (Option (List ℕ))) (bytes : List ℕ) (kind : ReadKind) (at : Spot) → IsHeld found bytes → IsRefused bytes kind at → IsDue found kind at
due_of None bytes kind at h r = tt
due_of (Some None) bytes kind at h r = absurd (cc)
due_of (Some (Some held)) bytes kind at h r = let same : bytes ≡ held = cc in subst (λ b. IsRefused b kind at) same r

too_long_due : (found : Option (Option (List ℕ))) → ExceedsLimit found SOURCE_LIMIT → IsDue found read_kind.TooLong start
too_long_due None h = tt
too_long_due (Some None) h = absurd h
too_long_due (Some (Some bytes)) h = IsRefused.too_long h

-- no read failed where a file was read
pub none_failed : (name : List ℕ) (limit : ℕ) (before after : FilesSeen) (file : Fetched) → Fetches name limit before after (Ok file) → NoReadFailed before after
none_failed name limit before after (Bytes bytes) f = f.2
none_failed name limit before after TooLong f = f.1

-- the program of a file that was read
pub loads_file : (name : List ℕ) (before mid after : FilesSeen) (file : Fetched) (answer : Result Table LoadNo)
    → Fetches name SOURCE_LIMIT before mid (Ok file) → NoReadFailed before after → GivesFile file answer → Loads name before after answer
loads_file name before mid after (Bytes bytes) (Ok program) f quiet h = (record { bytes = bytes.items; read = f.0; source = h }, quiet)
loads_file name before mid after (Bytes bytes) (Err NotRead) f quiet h = absurd h
loads_file name before mid after (Bytes bytes) (Err (Refused kind at)) f quiet h = (due_of (told before.held name) bytes.items kind at f.0 h, quiet)
loads_file name before mid after (Bytes bytes) (Err (OutOfScope kind at)) f quiet h = (record { bytes = bytes.items; read = f.0; refused = h }, quiet)
loads_file name before mid after (Bytes bytes) (Err Memory) f quiet h = tt
loads_file name before mid after TooLong (Ok program) f quiet h = absurd h
loads_file name before mid after TooLong (Err NotRead) f quiet h = absurd h
loads_file name before mid after TooLong (Err (Refused kind at)) f quiet h = (rw (h.0, h.1) (too_long_due (told before.held name) f.0), quiet)
loads_file name before mid after TooLong (Err (OutOfScope kind at)) f quiet h = absurd h
loads_file name before mid after TooLong (Err Memory) f quiet h = absurd h

-- a file that was read is there
pub there : (name : List ℕ) (limit : ℕ) (before after : FilesSeen) (file : Fetched) → Fetches name limit before after (Ok file) → told before.held name ≢ Some None
there name limit before after (Bytes bytes) f e = let h : IsHeld (Some None) bytes.items = subst (λ x. IsHeld x bytes.items) e f.0 in absurd (cc)
there name limit before after TooLong f e = let h : ExceedsLimit (Some None) limit = subst (λ x. ExceedsLimit x limit) e f.0 in absurd h

-- a second file that was read, seen from before the first was
pub read_second : (name : List ℕ) (limit : ℕ) (before mid after : FilesSeen) (file : Fetched) → mid.held ≡ before.held → NoReadFailed before mid
    → Fetches name limit mid after (Ok file) → Fetches name limit before after (Ok file)
read_second name limit before mid after (Bytes bytes) same quiet f = (subst (λ held. IsHeld (told held name) bytes.items) same f.0, f.1, f.2 ∙ quiet)
read_second name limit before mid after TooLong same quiet f = (subst (λ held. ExceedsLimit (told held name) limit) same f.0, f.1 ∙ quiet)

pub held_bytes : (found : Option (Option (List ℕ))) (bytes read : List ℕ) → found ≡ Some (Some bytes) → IsHeld found read → bytes ≡ read
held_bytes found bytes read e h = let there : IsHeld (Some (Some bytes)) read = subst (λ x. IsHeld x read) e h in cc

due_bytes : (found : Option (Option (List ℕ))) (bytes : List ℕ) (kind : ReadKind) (at : Spot) → found ≡ Some (Some bytes) → IsDue found kind at → IsRefused bytes kind at
due_bytes found bytes kind at e h = subst (λ x. IsDue x kind at) e h

pub missing_held : (found : Option (Option (List ℕ))) (bytes : List ℕ) → found ≡ Some None → IsHeld found bytes → ⊥
missing_held found bytes e h = let h : IsHeld (Some None) bytes = subst (λ x. IsHeld x bytes) e h in absurd (cc)

-- nothing is held under the name: no program is found
pub missing_loaded : (found : Option (Option (List ℕ))) (program : Table) → found ≡ Some None → IsLoaded found program → ⊥
missing_loaded found program e h = missing_held found h.bytes e h.read

pub missing_error : (name : List ℕ) (before after : FilesSeen) (error : LoadNo) → told before.held name ≡ Some None → Loads name before after (Err error)
    → (load_status error ≡ 3) ⊎ (load_status error ≡ 6)
missing_error name before after NotRead e h = inl refl
missing_error name before after (Refused kind at) e h = let h : IsDue (Some None) kind at = subst (λ x. IsDue x kind at) e h.0 in absurd h
missing_error name before after (OutOfScope kind at) e h = absurd (missing_held (told before.held name) h.0.bytes e h.0.read)
missing_error name before after Memory e h = inr refl

-- a read failed
pub failed_error : (name : List ℕ) (before after : FilesSeen) (error : LoadNo) → (NoReadFailed before after → ⊥) → Loads name before after (Err error)
    → (load_status error ≡ 3) ⊎ (load_status error ≡ 6)
failed_error name before after NotRead failed h = inl refl
failed_error name before after (Refused kind at) failed h = absurd (failed h.1)
failed_error name before after (OutOfScope kind at) failed h = absurd (failed h.1)
failed_error name before after Memory failed h = inr refl

module _ (name : List ℕ) (before after : FilesSeen) (bytes : List ℕ) (is : told before.held name ≡ Some (Some bytes)) where
  -- a source was found
  pub found_forms : (program : Table) (forms : List Form) (loads : IsLoaded (told before.held name) program) → IsSource bytes forms → forms ≡ loads.source.forms
  found_forms program forms h s =
      let same = held_bytes (told before.held name) bytes h.bytes is h.read in
      one_spelling _ _ _ (subst (λ x. IsSource x forms) same s) h.source.source

  pub found_refused : (program : Table) (kind : ReadKind) (at : Spot) → IsLoaded (told before.held name) program → IsRefused bytes kind at → ⊥
  found_refused program kind at h r =
      let same = held_bytes (told before.held name) bytes h.bytes is h.read in
      spelled_never _ _ _ _ h.source.source (subst (λ x. IsRefused x kind at) same r)

  pub found_out_of_scope : (program : Table) (kind : ScopeKind) (at : Spot) → IsLoaded (told before.held name) program → IsOutOfScope bytes kind at → ⊥
  found_out_of_scope program kind at h r =
      scope_never _ _ _ _ h.source.scope (subst (λ x. IsScopeRefused x kind at) (found_forms program r.forms h r.source) r.due)

  pub found_program : (program other : Table) → IsLoaded (told before.held name) program → IsProgramOf bytes other → program ≡ other
  found_program program other h p = program_once h.source.forms program other h.source.scope (subst (λ f. IsProgram f other) (found_forms program p.forms h p.source) p.scope)

  -- none was
  pub error_refused : (error : LoadNo) (kind : ReadKind) (at : Spot) → Loads name before after (Err error) → IsRefused bytes kind at → (Rose before.read_faults after.read_faults → ⊥)
      → ((load_status error ≡ 4) × (load_detail error ≡ refused_as kind at)) ⊎ (load_status error ≡ 6)
  error_refused NotRead kind at h r calm = absurd (elim h [ inl failed ↦ calm failed.0 | inr absent ↦ absurd (let x = sym is ∙ absent.1 in cc) ])
  error_refused (Refused k a) kind at h r calm =
      let s = one_refusal _ _ _ _ _ (due_bytes (told before.held name) bytes k a is h.0) r in
      inl (refl, ap (λ x. refused_as x a) s.kinds ∙ ap (λ x. refused_as kind x) s.places)
  error_refused (OutOfScope k a) kind at h r calm =
      let same = held_bytes (told before.held name) bytes h.0.bytes is h.0.read in
      absurd (spelled_never _ _ _ _ h.0.refused.source (subst (λ x. IsRefused x kind at) same r))
  error_refused Memory kind at h r calm = inr refl

  -- the source of the refused forms is the given one
  scope_due : (k : ScopeKind) (a : Spot) (forms : List Form) → IsScopeDue (told before.held name) k a → IsSource bytes forms → IsScopeRefused forms k a
  scope_due k a forms h s =
      let same = held_bytes (told before.held name) bytes h.bytes is h.read in
      subst (λ x. IsScopeRefused x k a) (one_spelling _ _ _ h.refused.source (subst (λ x. IsSource x forms) same s)) h.refused.due

  pub error_out_of_scope : (error : LoadNo) (kind : ScopeKind) (at : Spot) → Loads name before after (Err error) → IsOutOfScope bytes kind at
      → (Rose before.read_faults after.read_faults → ⊥) → ((load_status error ≡ 4) × (load_detail error ≡ out_of_scope kind at)) ⊎ (load_status error ≡ 6)
  error_out_of_scope NotRead kind at h r calm = absurd (elim h [ inl failed ↦ calm failed.0 | inr absent ↦ absurd (let x = sym is ∙ absent.1 in cc) ])
  error_out_of_scope (Refused k a) kind at h r calm = absurd (spelled_never _ _ _ _ r.source (due_bytes (told before.held name) bytes k a is h.0))
  error_out_of_scope (OutOfScope k a) kind at h r calm =
      let once = refusal_once r.forms k kind a at (scope_due k a r.forms h.0 r.source) r.due in
      inl (refl, ap (λ x. out_of_scope x a) once.0 ∙ ap (λ x. out_of_scope kind x) once.1)
  error_out_of_scope Memory kind at h r calm = inr refl

  pub error_checks : (error : LoadNo) (program : Table) → Loads name before after (Err error) → IsProgramOf bytes program → (Rose before.read_faults after.read_faults → ⊥) → load_status error ≡ 6
  error_checks NotRead program h p calm = absurd (elim h [ inl failed ↦ calm failed.0 | inr absent ↦ absurd (let x = sym is ∙ absent.1 in cc) ])
  error_checks (Refused k a) program h p calm = absurd (spelled_never _ _ _ _ p.source (due_bytes (told before.held name) bytes k a is h.0))
  error_checks (OutOfScope k a) program h p calm = absurd (scope_never p.forms program k a p.scope (scope_due k a p.forms h.0 p.source))
  error_checks Memory program h p calm = refl
