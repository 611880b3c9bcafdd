use Rattle.std.proofs.Common.{◌≡◌, ◌∙◌, ◌∷◌, ◌++◌, List, [], ℕ, refl, sym, ap}
use Rattle.std.specs.Prelude.{Result, Ok, Err, OnOk, IsErr, Some}
use Rattle.world_io.specs.declared.files.WriteNo.{WriteNo}
use Rattle.world_io.specs.declared.files.FileItem.{FileItem}
use Rattle.world_io.specs.Held.{file_under}
use Rattle.world_io.proofs.Putting.{replaced, replaced-others, added, added-others}
use Rattle.world_io.proofs.mem_files.put.Goals as goal

pub returns-in-Some-clause-written : goal.returns-in-Some-clause-written
returns-in-Some-clause-written c = rw c.set.ensures (replaced c.args.held.now c.in-Some.index c.args.item (sym c.index_of.ensures ∙ c.in-Some.is))

pub returns-in-Some-clause-others : goal.returns-in-Some-clause-others
returns-in-Some-clause-others c = rw c.set.ensures (replaced-others c.args.held.now c.in-Some.index c.args.item (sym c.index_of.ensures ∙ c.in-Some.is))

written : (answer : Result Unit WriteNo) (held new : List FileItem) (item : FileItem) → OnOk answer (new ≡ held ++ item ∷ []) → file_under item.name (held ++ item ∷ []) ≡ Some item.bytes
    → OnOk answer (file_under item.name new ≡ Some item.bytes)
written (Ok x) held new item e put = ap (file_under item.name) e ∙ put
written (Err refusal) held new item e put = tt

others : (answer : Result Unit WriteNo) (held new : List FileItem) (item : FileItem) (other : List ℕ) → OnOk answer (new ≡ held ++ item ∷ []) → (IsErr answer → new ≡ held)
    → file_under other (held ++ item ∷ []) ≡ file_under other held → file_under other new ≡ file_under other held
others (Ok x) held new item other e stays same = ap (file_under other) e ∙ same
others (Err refusal) held new item other e stays same = ap (file_under other) (stays refl)

pub returns-in-None-clause-written : goal.returns-in-None-clause-written
returns-in-None-clause-written c =
    written c.add.result c.args.held.now c.add.new.held c.args.item c.add.ensures.added (added c.args.held.now c.args.item (sym c.index_of.ensures ∙ c.in-None.is))

pub returns-in-None-clause-others : goal.returns-in-None-clause-others
returns-in-None-clause-others c other apart =
    others c.add.result c.args.held.now c.add.new.held c.args.item other c.add.ensures.added c.add.ensures.stays (added-others c.args.held.now c.args.item other apart)
