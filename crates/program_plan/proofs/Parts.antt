-- Parts of an expression that are read: one after another, and in chains.
use Rattle.std.proofs.Common.{◌≡◌, ◌∙◌, ℕ, ◌+◌, true, List, [], ◌∷◌, ◌++◌, map, refl, sym, subst, append_assoc, append-nil}
use Rattle.std.proofs.lemmas.Simd.{map-map}
use Rattle.value_core.specs.Place.{Spot}
use Rattle.core_syntax.specs.declared.node.Node.TheVariants.{Nil, Bool as constant, Local, If, Let}
use Rattle.core_syntax.specs.declared.node_id.NodeId.{NodeId}
use Rattle.core_syntax.specs.Table.{Table}
use Rattle.program_plan.specs.Emitted.{Emitting, local, each, cond_of, and_of, or_of}
use Rattle.program_plan.specs.Frame.{Frame, local_place}
use Rattle.program_plan.specs.Made.{node, followed, gathered}
use Rattle.program_plan.specs.Reads.{Reading, IsLocal, ReadsEach, ReadsIf, ReadsBinding, ReadsCond, ReadsAnd, ReadsOr}
use Rattle.program_plan.proofs.Giving.{Gives, gives_node, gives_nothing, gives_followed, gives_then, gives_weaker, gives_numbers, gives_due}
use Rattle.resolved_forms.proofs.LoopNumbers.{joined}

-- a part of an expression: what it makes gives what is read, in every frame
pub record Part (table : Table) : Type 1 where
  pub emitting : Emitting
  pub reading : Reading
  pub numbers : List ℕ
  pub gives : (frame : Frame) → Gives table (emitting frame) numbers (reading frame)

abbrev pub emittings : {table : Table} → List (Part table) → List Emitting
emittings parts = map (λ part. part.emitting) parts

abbrev pub readings : {table : Table} → List (Part table) → List Reading
readings parts = map (λ part. part.reading) parts

abbrev pub numbers_in : {table : Table} → List (Part table) → List ℕ
numbers_in parts = joined (map (λ part. part.numbers) parts)

-- the ids of parts, behind those that are done
record Behind (frame : Frame) (parts : List Reading) (done ids : List NodeId) : Type 0 where
  more : List NodeId
  is : ids ≡ done ++ more
  read : ReadsEach frame parts more

module _ (table : Table) (frame : Frame) where
  gives_gathered : (number : ℕ) (done : List NodeId) (parts : List (Part table))
      → Gives table (gathered (λ (number : ℕ) (part : Emitting). part frame) number done (emittings parts)) (numbers_in parts) (Behind frame (readings parts) done)
  gives_gathered number done [] = gives_nothing table done (Behind frame [] done) (record { more = []; is = sym (append-nil done); read = tt })
  gives_gathered number done (part ∷ parts) =
      gives_followed (λ id. gathered (λ (number : ℕ) (part : Emitting). part frame) (number + 1) (done ++ id ∷ []) (emittings parts)) (part.gives frame)
      (λ id read. gives_weaker (λ ids rest. record { more = id ∷ rest.more; is = rest.is ∙ append_assoc done (id ∷ []) rest.more; read = (read, rest.read) }) (gives_gathered (number + 1) (done ++ id ∷ []) parts))

  pub gives_each : (parts : List (Part table)) → Gives table (each frame (emittings parts)) (numbers_in parts) (ReadsEach frame (readings parts))
  gives_each parts = gives_weaker (λ ids behind. subst (ReadsEach frame (readings parts)) (sym behind.is) behind.read) (gives_gathered 0 [] parts)

  module _ (at : Spot) where
    gives_if : (condition taken other : NodeId → Type 0) (c t o : NodeId) → condition c → taken t → other o → Gives table (node at (If c t o)) [] (ReadsIf table at condition taken other)
    gives_if condition taken other c t o a b d = gives_due at (If c t o) (λ id stands. record {
      condition_id = c;
      taken_id = t;
      other_id = o;
      stands = stands;
      condition_read = a;
      taken_read = b;
      other_read = d;
    })

    gives_binding : (value body : NodeId → Type 0) (v b : NodeId) → value v → body b → Gives table (node at (Let (v ∷ []) b)) [] (ReadsBinding table at value body)
    gives_binding value body v b p q = gives_due at (Let (v ∷ []) b) (λ id stands. record { value_id = v; body_id = b; stands = stands; value_read = p; body_read = q })

    gives_local : (level : ℕ) → Gives table (local at level frame) [] (IsLocal table at level frame)
    gives_local level = gives_node table at (Local (local_place frame level))

    pub gives_cond : (parts : List (Part table)) → Gives table (cond_of at frame (emittings parts)) (numbers_in parts) (ReadsCond table at frame (readings parts))
    gives_cond [] = gives_node table at Nil
    gives_cond (test ∷ []) = gives_followed (λ id. node at Nil) (test.gives frame) (λ id read. gives_node table at Nil)
    gives_cond (test ∷ result ∷ rest) =
        gives_followed (λ c. followed (result.emitting frame) (λ t. followed (cond_of at frame (emittings rest)) (λ o. node at (If c t o)))) (test.gives frame) (λ c condition.
        gives_followed (λ t. followed (cond_of at frame (emittings rest)) (λ o. node at (If c t o))) (result.gives frame) (λ t taken.
        gives_then (λ o. node at (If c t o)) (gives_cond rest) (λ o other.
        gives_if (test.reading frame) (result.reading frame) (ReadsCond table at frame (readings rest)) c t o condition taken other)))

    pub gives_and : (level : ℕ) (parts : List (Part table)) → Gives table (and_of at frame level (emittings parts)) (numbers_in parts) (ReadsAnd table at frame level (readings parts))
    gives_and level [] = gives_node table at (constant true)
    gives_and level (part ∷ []) = gives_numbers (sym (append-nil part.numbers)) (part.gives frame)
    gives_and level (part ∷ next ∷ parts) =
        let here = IsLocal table at level frame in
        let after = ReadsAnd table at frame (level + 1) (readings (next ∷ parts)) in
        gives_followed _ (part.gives frame) (λ v value.
        gives_followed _ (gives_local level) (λ t test.
        gives_then _ (gives_and (level + 1) (next ∷ parts)) (λ r rest.
        gives_then _ (gives_local level) (λ a again.
        gives_then (λ c. node at (Let (v ∷ []) c)) (gives_if here after here t r a test rest again) (λ c choice.
        gives_binding (part.reading frame) (ReadsIf table at here after here) v c value choice)))))

    pub gives_or : (level : ℕ) (parts : List (Part table)) → Gives table (or_of at frame level (emittings parts)) (numbers_in parts) (ReadsOr table at frame level (readings parts))
    gives_or level [] = gives_node table at Nil
    gives_or level (part ∷ []) = gives_numbers (sym (append-nil part.numbers)) (part.gives frame)
    gives_or level (part ∷ next ∷ parts) =
        let here = IsLocal table at level frame in
        let after = ReadsOr table at frame (level + 1) (readings (next ∷ parts)) in
        gives_followed _ (part.gives frame) (λ v value.
        gives_followed _ (gives_local level) (λ t test.
        gives_followed _ (gives_local level) (λ a again.
        gives_then _ (gives_or (level + 1) (next ∷ parts)) (λ r rest.
        gives_then (λ c. node at (Let (v ∷ []) c)) (gives_if here here after t a r test again rest) (λ c choice.
        gives_binding (part.reading frame) (ReadsIf table at here here after) v c value choice)))))

    local_part : ℕ → Part table
    local_part level = record { emitting = local at level; reading = IsLocal table at level; numbers = []; gives = λ f. gives_node table at (Local (local_place f level)) }

    no_numbers : (levels : List ℕ) → numbers_in (map local_part levels) ≡ []
    unfolding local_part
    no_numbers [] = refl
    no_numbers (level ∷ levels) = no_numbers levels

    -- the locals of some levels
    pub gives_locals : (levels : List ℕ) → Gives table (each frame (map (local at) levels)) [] (ReadsEach frame (map (IsLocal table at) levels))
    unfolding local_part
    gives_locals levels =
        let parts = map local_part levels in
        let made : emittings parts ≡ map (local at) levels = map-map (λ (part : Part table). part.emitting) local_part levels in
        let read : readings parts ≡ map (IsLocal table at) levels = map-map (λ (part : Part table). part.reading) local_part levels in
        subst (λ (l : List Emitting). Gives table (each frame l) [] (ReadsEach frame (map (IsLocal table at) levels))) made
        (subst (λ (l : List Reading). Gives table (each frame (emittings parts)) [] (ReadsEach frame l)) read
        (gives_numbers (no_numbers levels) (gives_each parts)))
