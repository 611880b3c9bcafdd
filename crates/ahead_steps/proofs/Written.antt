-- Turns that are changed where they are kept.
use Rattle.std.proofs.Common.{◌≡◌, ◌∙◌, ◌++◌, ◌∷◌, [], false, true, sym, ap}
use Rattle.std.specs.BTreeMap.{BTreeMap, WritesThrough}
use Rattle.std.specs.Prelude.{Some}
use Rattle.ahead_steps.proofs.Came.{some-same}
use Rattle.ahead_steps.specs.Going.{HoldsLast}
use Rattle.serial_model.specs.declared.request.Request.{Request}
use Rattle.shared_world.specs.Ahead.{Ahead}
use Rattle.turns_ahead.specs.Leading.{Leading, ahead_of}
use Rattle.value_core.proofs.NamedViews.{view_found, view_written}
use Rattle.value_core.specs.Name.{after_cmp}
use Rattle.value_core.specs.Named.{Name, each_as, named, with_named}

-- the turn that is kept under a name is the one that is seen there
found-view : (name : Name) (old : BTreeMap Name Leading) (y : Leading) (h : Ahead) → named name old.entries ≡ Some y → named name (each_as ahead_of old.entries) ≡ Some h → ahead_of y ≡ h
found-view name old y h there so = some-same (ahead_of y) h (sym (view_found ahead_of name old.entries y there) ∙ so)

-- it holds a request more
pub last-held : (name : Name) (old new : BTreeMap Name Leading) (w y : Leading) (r : Request) → WritesThrough after_cmp (after_cmp name) old w new → named name old.entries ≡ Some y
    → ahead_of w ≡ record (ahead_of y) { held = (ahead_of y).held ++ r ∷ []; waits = false } → HoldsLast name r (each_as ahead_of old.entries) (each_as ahead_of new.entries)
last-held name old new w y r writes there is h so =
    view_written ahead_of name old new w y writes there ∙ ap (with_named (each_as ahead_of old.entries) name) (is ∙ ap (λ (k : Ahead). record k { held = k.held ++ r ∷ []; waits = false }) (found-view name old y h there so))

-- it waits
pub now-waits : (name : Name) (old new : BTreeMap Name Leading) (w y : Leading) → WritesThrough after_cmp (after_cmp name) old w new → named name old.entries ≡ Some y → w ≡ record y { waits = true }
    → (h : Ahead) → named name (each_as ahead_of old.entries) ≡ Some h → each_as ahead_of new.entries ≡ with_named (each_as ahead_of old.entries) name (record h { waits = true })
now-waits name old new w y writes there is h so =
    view_written ahead_of name old new w y writes there ∙ ap (with_named (each_as ahead_of old.entries) name) (ap ahead_of is ∙ ap (λ (k : Ahead). record k { waits = true }) (found-view name old y h there so))
