-- What files hold under a name.
use Rattle.std.specs.Prelude.{◌≡◌, ℕ, ◌<◌, List, length, find, Option, Some, is_some, IfSome, IsSomeAnd, ◌≢◌}
use Rattle.std.specs.Option.{option_map}
use Rattle.std.specs.Str.{bytes_eq}
use Rattle.world_io.specs.declared.files.FileItem.{FileItem}

-- the bytes held under the name, those of the first file with that name
abbrev pub file_under : List ℕ → List FileItem → Option (List ℕ)
file_under name held = option_map (λ item. item.bytes) (find (λ item. bytes_eq item.name name) held)

-- what is told of the name: nothing, or that nothing is held under it, or the bytes held
abbrev pub told : Option (List FileItem) → List ℕ → Option (Option (List ℕ))
told held name = option_map (file_under name) held

-- these are the bytes held, where that is told
abbrev pub IsHeld : Option (Option (List ℕ)) → List ℕ → Type 0
IsHeld found bytes = IfSome found (λ held. held ≡ Some bytes)

-- more than `limit` bytes are held, where that is told
abbrev pub ExceedsLimit : Option (Option (List ℕ)) → ℕ → Type 0
ExceedsLimit found limit = IfSome found (λ held. IsSomeAnd held (λ bytes. limit < length bytes))

-- No name but this one holds anything else than before. Whether it is told what is held stays as it was.
pub record IsSameBut (name : List ℕ) (old new : Option (List FileItem)) : Type 0 where
  pub tells : is_some new ≡ is_some old
  pub others : (other : List ℕ) → other ≢ name → told new other ≡ told old other
