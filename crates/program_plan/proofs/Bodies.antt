-- Lets and loops that are read: parts of which the last is a body.
use Rattle.std.proofs.Common.{◌≡◌, ◌∙◌, ℕ, List, [], ◌∷◌, ◌++◌, map, refl, sym, ap, subst, append_assoc}
use Rattle.std.specs.Prelude.{Some}
use Rattle.std.specs.List.{slice_get}
use Rattle.value_core.specs.Place.{Spot}
use Rattle.core_syntax.specs.declared.node.Node.TheVariants.{Nil, Let, Call}
use Rattle.core_syntax.specs.declared.node_id.NodeId.{NodeId}
use Rattle.core_syntax.specs.Table.{Table}
use Rattle.resolved_forms.specs.declared.expr.Looping.{Looping}
use Rattle.program_plan.specs.Emitted.{Begun, Emitting, each, by_last, let_of, loop_of, loop_end, loop_function, begun_of}
use Rattle.program_plan.specs.Frame.{Frame, hidden_places, hidden_at, loop_frame}
use Rattle.program_plan.specs.Made.{Making, node, nothing, followed}
use Rattle.program_plan.specs.Reads.{ReadsEach, ReadsBody, ReadsLet, ReadsLoop, IsNilOr}
use Rattle.program_plan.proofs.Giving.{Gives, gives_node, gives_nothing, gives_followed, gives_in_loop, gives_then, gives_numbers, gives_due}
use Rattle.resolved_forms.proofs.LoopNumbers.{of_loop}
use Rattle.program_plan.proofs.Parts.{Part, emittings, readings, numbers_in, gives_each, gives_locals}

module _ {table : Table} where
  -- the parts before the last one, and the last
  numbers_last : (front : List (Part table)) (last : Part table) → numbers_in (front ++ last ∷ []) ≡ numbers_in front ++ (last.numbers ++ [])
  numbers_last [] last = refl
  numbers_last (part ∷ front) last = ap (λ l. part.numbers ++ l) (numbers_last front last) ∙ sym (append_assoc part.numbers (numbers_in front) (last.numbers ++ []))

  loop_last : (number : ℕ) (front : List (Part table)) (last : Part table) → of_loop number (map (λ part. part.numbers) (front ++ last ∷ [])) ≡ number ∷ numbers_in (front ++ last ∷ [])
  loop_last number [] last = refl
  loop_last number (part ∷ front) last = refl

  body_read : (outer inner : Frame) (front : List (Part table)) (last : Part table) (ids : List NodeId) (body : NodeId)
      → ReadsEach outer (readings front) ids → last.reading inner body → ReadsBody outer inner (readings (front ++ last ∷ [])) ids body
  body_read outer inner [] last [] body each_read last_read = last_read
  body_read outer inner [] last (id ∷ ids) body each_read last_read = absurd each_read
  body_read outer inner (part ∷ front) last [] body each_read last_read = absurd each_read
  body_read outer inner (part ∷ []) last (id ∷ ids) body each_read last_read = (each_read.0, body_read outer inner [] last ids body each_read.1 last_read)
  body_read outer inner (part ∷ next ∷ front) last (id ∷ ids) body each_read last_read = (each_read.0, body_read outer inner (next ∷ front) last ids body each_read.1 last_read)

  nil_or : (at : Spot) (front : List (Part table)) (last : Part table) (some : NodeId → Type 0) (id : NodeId) → some id → IsNilOr table at (readings (front ++ last ∷ [])) some id
  nil_or at [] last some id holds = holds
  nil_or at (part ∷ front) last some id holds = holds

  -- what is made of all but the last, and the last
  gives_by_last : (none : Making NodeId) (some : List Emitting → Emitting → Making NodeId) (first : Part table) (parts : List (Part table)) (numbers : List ℕ) (Due : NodeId → Type 0)
      → ((front : List (Part table)) (last : Part table) → first ∷ parts ≡ front ++ last ∷ [] → Gives table (some (emittings front) last.emitting) numbers Due)
      → Gives table (by_last none some (emittings (first ∷ parts))) numbers Due
  gives_by_last none some first [] numbers Due given = given [] first refl
  gives_by_last none some first (next ∷ parts) numbers Due given =
      gives_by_last none (λ front last. some (first.emitting ∷ front) last) next parts numbers Due
      (λ front last is. given (first ∷ front) last (ap (λ (l : List (Part table)). first ∷ l) is))

  module _ (at : Spot) (frame : Frame) where
    abbrev LetRead : List (Part table) → NodeId → Type 0
    LetRead parts id = IsNilOr table at (readings parts) (ReadsLet table at frame (readings parts)) id

    let_last : (front : List (Part table)) (last : Part table)
        → Gives table (let_of at frame (emittings front) last.emitting) (numbers_in (front ++ last ∷ [])) (LetRead (front ++ last ∷ []))
    let_last front last = gives_numbers (sym (numbers_last front last))
        (gives_followed (λ ids. followed (last.emitting frame) (λ id. node at (Let ids id))) (gives_each table frame front) (λ ids each_read.
        gives_followed (λ id. node at (Let ids id)) (last.gives frame) (λ body last_read.
        gives_due at (Let ids body) (λ id stands. nil_or at front last (ReadsLet table at frame (readings (front ++ last ∷ []))) id (record {
          bound = ids;
          body = body;
          stands = stands;
          parts_read = body_read frame frame front last ids body each_read last_read;
        })))))

    pub gives_let : (parts : List (Part table)) → Gives table (by_last (node at Nil) (let_of at frame) (emittings parts)) (numbers_in parts) (LetRead parts)
    gives_let [] = gives_node table at Nil
    gives_let (part ∷ parts) =
        gives_by_last (node at Nil) (let_of at frame) part parts (numbers_in (part ∷ parts)) (LetRead (part ∷ parts))
        (λ front last is. subst (λ (l : List (Part table)). Gives table (let_of at frame (emittings front) last.emitting) (numbers_in l) (LetRead l)) (sym is) (let_last front last))

    module _ (looping : Looping) where
      abbrev LoopRead : List (Part table) → NodeId → Type 0
      LoopRead parts id = IsNilOr table at (readings parts) (ReadsLoop table at frame looping (readings parts)) id

      -- the parts of a loop are there, and its function
      record LoopBegun (front : List (Part table)) (last : Part table) (begun : Begun) : Type 0 where
        values_read : ReadsEach frame (readings front) begun.values
        body_is_read : last.reading (loop_frame frame looping.number looping.base) begun.body
        function : slice_get table.functions looping.number ≡ Some (loop_function at frame looping begun.body)

      -- the parts of a loop are there
      record Inside (front : List (Part table)) (last : Part table) (begun : Begun) : Type 0 where
        values_read : ReadsEach frame (readings front) begun.values
        body_is_read : last.reading (loop_frame frame looping.number looping.base) begun.body

      gives_inside : (front : List (Part table)) (last : Part table)
          → Gives table (followed (each frame (emittings front)) (λ values. followed (last.emitting (loop_frame frame looping.number looping.base)) (λ root. nothing (begun_of values root))))
          (numbers_in front ++ (last.numbers ++ [])) (Inside front last)
      gives_inside front last =
          gives_followed _ (gives_each table frame front) (λ values values_read.
          gives_followed _ (last.gives (loop_frame frame looping.number looping.base)) (λ root root_read.
          gives_nothing table (begun_of values root) (Inside front last) (record { values_read = values_read; body_is_read = root_read })))

      gives_end : (front : List (Part table)) (last : Part table) (begun : Begun) → LoopBegun front last begun
          → Gives table (loop_end at frame looping begun.values) [] (LoopRead (front ++ last ∷ []))
      gives_end front last begun there =
          let hidden = hidden_places frame (hidden_at frame.layout.functions looping.number) in
          gives_then _ (gives_locals table frame at looping.arguments) (λ arguments arguments_are.
          gives_then _ (gives_node table at (Call looping.number hidden arguments)) (λ call calls.
          gives_due at (Let begun.values call) (λ id stands. nil_or at front last (ReadsLoop table at frame looping (readings (front ++ last ∷ []))) id (record {
            values = begun.values;
            call = call;
            arguments = arguments;
            body = begun.body;
            stands = stands;
            calls = calls;
            arguments_are = arguments_are;
            function = there.function;
            parts_read = body_read frame (loop_frame frame looping.number looping.base) front last begun.values begun.body there.values_read there.body_is_read;
          }))))

      loop_parts : (front : List (Part table)) (last : Part table)
          → Gives table (loop_of at frame looping (emittings front) last.emitting) (of_loop looping.number (map (λ part. part.numbers) (front ++ last ∷ []))) (LoopRead (front ++ last ∷ []))
      loop_parts front last =
          gives_numbers (sym (loop_last looping.number front last ∙ ap (λ l. looping.number ∷ l) (numbers_last front last)))
          (gives_then _ (gives_in_loop (λ begun. loop_function at frame looping begun.body) looping.number (gives_inside front last) (λ begun inside function. record {
            values_read = inside.values_read;
            body_is_read = inside.body_is_read;
            function = function;
          })) (gives_end front last))

      pub gives_loop : (parts : List (Part table))
          → Gives table (by_last (node at Nil) (loop_of at frame looping) (emittings parts)) (of_loop looping.number (map (λ part. part.numbers) parts)) (LoopRead parts)
      gives_loop [] = gives_node table at Nil
      gives_loop (part ∷ parts) =
          gives_by_last (node at Nil) (loop_of at frame looping) part parts (of_loop looping.number (map (λ p. p.numbers) (part ∷ parts))) (LoopRead (part ∷ parts))
          (λ front last is. subst
          (λ (l : List (Part table)). Gives table (loop_of at frame looping (emittings front) last.emitting) (of_loop looping.number (map (λ p. p.numbers) l)) (LoopRead l)) (sym is) (loop_parts front last))
