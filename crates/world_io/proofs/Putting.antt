-- What is held under each name after a file is put among others.
use Rattle.std.proofs.Common.{◌≡◌, ◌≢◌, ℕ, ◌≤◌, List, [], ◌∷◌, ◌++◌, length, get_or, Bool, true, false, refl, sym, ◌∙◌, ap, arith}
use Rattle.std.specs.Prelude.{Option, None, Some, position, find, slice_set, cond, nat_lt}
use Rattle.std.specs.List.{position_or_len}
use Rattle.std.proofs.lemmas.Option.{none-some, slice_get_past}
use Rattle.std.specs.Option.{option_map, option_or}
use Rattle.std.specs.Str.{bytes_eq}
use Rattle.std.proofs.lemmas.Grind.{common_steps}
use Rattle.std.proofs.lemmas.List.Folds.{find-set, find_past, find-append, find_at}
use Rattle.std.proofs.lemmas.List.Quantifiers.{position-Some}
use Rattle.std.proofs.lemmas.Slice.Eq.{bytes_eq-Decides}
use Rattle.world_io.specs.declared.files.FileItem.{FileItem}
use Rattle.world_io.specs.Held.{file_under}

same : (name : List ℕ) → bytes_eq name name ≡ true
same name = (bytes_eq-Decides name name).1 refl

differs : (name other : List ℕ) → name ≢ other → bytes_eq name other ≡ false
differs name other apart = grind (arith, bytes_eq-Decides name other)

-- in the place of the first with its name
pub replaced : (held : List FileItem) (i : ℕ) (item : FileItem) → position (λ x. bytes_eq x.name item.name) held ≡ Some i → file_under item.name (slice_set held i item) ≡ Some item.bytes
replaced held i item found =
    let at = position-Some (λ x. bytes_eq x.name item.name) held i item found in
    ap (option_map (λ x. x.bytes)) (find-set (λ x. bytes_eq x.name item.name) held i item (grind (arith, common_steps)) at.0 (same item.name))

pub replaced-others : (held : List FileItem) (i : ℕ) (item : FileItem) → position (λ x. bytes_eq x.name item.name) held ≡ Some i → (other : List ℕ) → other ≢ item.name
    → file_under other (slice_set held i item) ≡ file_under other held
replaced-others held i item found other apart =
    let at = position-Some (λ x. bytes_eq x.name item.name) held i item found in
    let is : (get_or held i item).name ≡ item.name = (bytes_eq-Decides (get_or held i item).name item.name).0 at.1 in
    let old : bytes_eq (get_or held i item).name other ≡ false = differs (get_or held i item).name other (λ e. apart (sym e ∙ is)) in
    let new : bytes_eq item.name other ≡ false = differs item.name other (λ e. apart (sym e)) in
    ap (option_map (λ x. x.bytes)) (find_past (λ x. bytes_eq x.name other) held i item item old new)

-- behind all others, where none has its name
none_found : (p : FileItem → Bool) (held : List FileItem) → position p held ≡ None → find p held ≡ None
none_found p held none =
    find_at p held ∙ slice_get_past held (position_or_len p held) (past (position_or_len p held) (length held) (nat_lt (position_or_len p held) (length held)) refl none)
  where
    past : (at len : ℕ) (b : Bool) → nat_lt at len ≡ b → cond b (Some at) None ≡ None → len ≤ at
    past at len true is e = absurd (none-some at (sym e))
    past at len false is e = grind (arith, common_steps)

pub added : (held : List FileItem) (item : FileItem) → position (λ x. bytes_eq x.name item.name) held ≡ None → file_under item.name (held ++ item ∷ []) ≡ Some item.bytes
added held item none =
    let there : find (λ x. bytes_eq x.name item.name) (held ++ item ∷ []) ≡ Some item =
    find-append (λ x. bytes_eq x.name item.name) held (item ∷ []) ∙ rw (none_found (λ x. bytes_eq x.name item.name) held none, same item.name) refl in
    ap (option_map (λ x. x.bytes)) there

pub added-others : (held : List FileItem) (item : FileItem) (other : List ℕ) → other ≢ item.name → file_under other (held ++ item ∷ []) ≡ file_under other held
added-others held item other apart =
    let there : find (λ x. bytes_eq x.name other) (held ++ item ∷ []) ≡ find (λ x. bytes_eq x.name other) held =
    find-append (λ x. bytes_eq x.name other) held (item ∷ []) ∙ rw (differs item.name other (λ e. apart (sym e))) (or_none (find (λ x. bytes_eq x.name other) held)) in
    ap (option_map (λ x. x.bytes)) there
  where
    or_none : (found : Option FileItem) → option_or found None ≡ found
    or_none None = refl
    or_none (Some x) = refl
