-- Whatever an expression becomes is read back as the expression.
use Rattle.std.proofs.Common.{◌≡◌, ◌∙◌, ℕ, List, [], ◌++◌, length, map, sym, subst, append_assoc, append-nil}
use Rattle.std.proofs.lemmas.Simd.{map-map}
use Rattle.value_core.specs.Place.{Spot}
use Rattle.core_syntax.specs.declared.function.Function.{Function}
use Rattle.core_syntax.specs.declared.node.Node.TheVariants.{Nil, Bool as constant, Int, Str, Kw, Local}
use Rattle.core_syntax.specs.declared.row.Row.{Row}
use Rattle.core_syntax.specs.Table.{Table}
use Rattle.resolved_forms.specs.declared.expr.Expr.{Expr}
use Rattle.resolved_forms.specs.declared.expr.ExprKind.{ExprKind}
use Rattle.resolved_forms.specs.declared.expr.ExprKind.TheFolds.{ind-Expr, map-ExprKind, fold-roll-Expr, fold-roll-ExprKind}
use Rattle.resolved_forms.specs.declared.expr.ExprKind.TheOpen as one
use Rattle.resolved_forms.specs.declared.expr.ExprKind.TheViews.{roll-ExprKind, roll-Expr}
use Rattle.resolved_forms.specs.declared.head.Head.{Head}
use Rattle.program_plan.specs.Applied.{applied}
use Rattle.program_plan.specs.Emitted as made
use Rattle.program_plan.specs.Emitted.{Emitting, each, emitted, emitted_kind}
use Rattle.program_plan.specs.Frame.{Frame, global_place, local_place}
use Rattle.program_plan.specs.Made.{Draft, node, followed, extended, answered}
use Rattle.program_plan.specs.Reads.{Reading, ReadsApply, ReadsLet, ReadsCond, ReadsAnd, ReadsOr, ReadsLoop, IsNilOr, kind_step, reading_of, reading_of_kind, Reads}
use Rattle.program_plan.proofs.Bodies.{gives_let, gives_loop}
use Rattle.program_plan.proofs.Giving.{Gives, gives_node, gives_then, gives_due}
use Rattle.program_plan.proofs.Holding.{HasRows, rows_between, HaveNumbers}
use Rattle.resolved_forms.proofs.LoopNumbers.{joined, of_loop, loop_numbers, numbers_of_kind, numbers_step, expr_step}
use Rattle.program_plan.proofs.Parts.{Part, emittings, readings, numbers_in, gives_each, gives_cond, gives_and, gives_or}
use Rattle.program_plan.proofs.ReadingLevels.{reading-roll, reading-roll_kind}

-- what the expression makes gives it, in every frame
abbrev pub IsRead : Table → Expr → Type 0
IsRead table expr = (frame : Frame) → Gives table (emitted expr frame) (loop_numbers expr) (reading_of table expr frame)

abbrev KindIsRead : Table → ExprKind → Type 0
KindIsRead table kind = (at : Spot) (frame : Frame) → Gives table (emitted_kind kind at frame) (numbers_of_kind kind) (reading_of_kind table kind at frame)

-- an expression that is read
abbrev Given : Table → Type 0
Given table = (expr : Expr) × IsRead table expr

abbrev GivenKind : Table → Type 0
GivenKind table = (kind : ExprKind) × KindIsRead table kind

module _ (table : Table) where
  part_of : Given table → Part table
  part_of given = record { emitting = emitted given.0; reading = reading_of table given.0; numbers = loop_numbers given.0; gives = given.1 }

  -- what holds of the parts of a level, with their own names
  of_parts : (Due : List Emitting → List (List ℕ) → List Reading → Type 0) (given : List (Given table))
      → Due (emittings (map part_of given)) (map (λ (p : Part table). p.numbers) (map part_of given)) (readings (map part_of given))
      → Due (map emitted (map (λ e. e.0) given)) (map loop_numbers (map (λ e. e.0) given)) (map (reading_of table) (map (λ e. e.0) given))
  unfolding part_of
  of_parts Due given holds =
      let exprs : List Expr = map (λ (e : Given table). e.0) given in
      let parts = map part_of given in
      let made_is : emittings parts ≡ map emitted exprs = map-map (λ (p : Part table). p.emitting) part_of given ∙ sym (map-map emitted (λ (e : Given table). e.0) given) in
      let numbers_are : map (λ (p : Part table). p.numbers) parts ≡ map loop_numbers exprs = map-map (λ (p : Part table). p.numbers) part_of given ∙ sym (map-map loop_numbers (λ (e : Given table). e.0) given) in
      let read_is : readings parts ≡ map (reading_of table) exprs = map-map (λ (p : Part table). p.reading) part_of given ∙ sym (map-map (reading_of table) (λ (e : Given table). e.0) given) in
      subst (λ (l : List Emitting). Due l (map loop_numbers exprs) (map (reading_of table) exprs)) made_is
      (subst (λ (l : List (List ℕ)). Due (emittings parts) l (map (reading_of table) exprs)) numbers_are
      (subst (λ (l : List Reading). Due (emittings parts) (map (λ (p : Part table). p.numbers) parts) l) read_is holds))

  gives_apply : (at : Spot) (frame : Frame) (head : Head) (parts : List (Part table))
      → Gives table (followed (each frame (emittings parts)) (λ ids. node at (applied frame head ids))) (numbers_in parts) (ReadsApply table at frame head (readings parts))
  gives_apply at frame head parts =
      gives_then (λ ids. node at (applied frame head ids)) (gives_each table frame parts) (λ ids each_read.
      gives_due at (applied frame head ids) (λ id stands. record { ids = ids; stands = stands; parts_read = each_read }))

  -- one level over parts that are read
  LevelIsRead : one.ExprKind-F ExprKind Expr → Type 0
  LevelIsRead x = (at : Spot) (frame : Frame)
      → Gives table (made.kind_step (map-ExprKind ExprKind Expr (Spot → Emitting) Emitting emitted_kind emitted x) at frame)
      (numbers_step (map-ExprKind ExprKind Expr (List ℕ) (List ℕ) numbers_of_kind loop_numbers x)) (kind_step table (reading_of table) x at frame)

  level : (y : one.ExprKind-F (GivenKind table) (Given table)) → LevelIsRead (map-ExprKind (GivenKind table) (Given table) ExprKind Expr (λ e. e.0) (λ e. e.0) y)
  unfolding LevelIsRead
  level one.Nil at frame = gives_node table at Nil
  level (one.Bool value) at frame = gives_node table at (constant value)
  level (one.Int value) at frame = gives_node table at (Int value)
  level (one.Str text) at frame = gives_node table at (Str text)
  level (one.Kw name) at frame = gives_node table at (Kw name)
  level (one.Local number) at frame = gives_node table at (Local (local_place frame number))
  level (one.Global number) at frame = gives_node table at (Local (global_place frame number))
  level (one.Apply head given) at frame =
      of_parts (λ es ns rs. Gives table (made.kind_step (one.Apply head es) at frame) (joined ns) (ReadsApply table at frame head rs)) given (gives_apply at frame head (map part_of given))
  level (one.Let given) at frame =
      of_parts (λ es ns rs. Gives table (made.kind_step (one.Let es) at frame) (joined ns) (λ id. IsNilOr table at rs (ReadsLet table at frame rs) id)) given (gives_let at frame (map part_of given))
  level (one.Cond given) at frame =
      of_parts (λ es ns rs. Gives table (made.cond_of at frame es) (joined ns) (ReadsCond table at frame rs)) given (gives_cond table frame at (map part_of given))
  level (one.And number given) at frame =
      of_parts (λ es ns rs. Gives table (made.and_of at frame number es) (joined ns) (ReadsAnd table at frame number rs)) given (gives_and table frame at number (map part_of given))
  level (one.Or number given) at frame =
      of_parts (λ es ns rs. Gives table (made.or_of at frame number es) (joined ns) (ReadsOr table at frame number rs)) given (gives_or table frame at number (map part_of given))
  level (one.Loop looping given) at frame =
      of_parts (λ es ns rs. Gives table (made.kind_step (one.Loop looping es) at frame) (of_loop looping.number ns) (λ id. IsNilOr table at rs (ReadsLoop table at frame looping rs) id)) given
      (gives_loop at frame looping (map part_of given))

  rolled : (x : one.ExprKind-F ExprKind Expr) → LevelIsRead x → KindIsRead table (roll-ExprKind x)
  unfolding LevelIsRead
  rolled x read at frame =
      let made_is = fold-roll-ExprKind (Spot → Emitting) Emitting made.kind_step made.expr_step x in
      let numbers_are = fold-roll-ExprKind (List ℕ) (List ℕ) numbers_step expr_step x in
      let numbers = numbers_step (map-ExprKind ExprKind Expr (List ℕ) (List ℕ) numbers_of_kind loop_numbers x) in
      subst (λ (e : Spot → Emitting). Gives table (e at frame) (numbers_of_kind (roll-ExprKind x)) (reading_of_kind table (roll-ExprKind x) at frame)) (sym made_is)
      (subst (λ (ns : List ℕ). Gives table (made.kind_step (map-ExprKind ExprKind Expr (Spot → Emitting) Emitting emitted_kind emitted x) at frame) ns (reading_of_kind table (roll-ExprKind x) at frame)) (sym numbers_are)
      (subst (λ (r : Spot → Reading). Gives table (made.kind_step (map-ExprKind ExprKind Expr (Spot → Emitting) Emitting emitted_kind emitted x) at frame) numbers (r at frame)) (sym (reading-roll_kind table x)) (read at frame)))

  rolled_expr : (x : one.Expr-F ExprKind Expr) → KindIsRead table x.kind → IsRead table (roll-Expr x)
  rolled_expr x read frame =
      let made_is = fold-roll-Expr (Spot → Emitting) Emitting made.kind_step made.expr_step x in
      let numbers_are = fold-roll-Expr (List ℕ) (List ℕ) numbers_step expr_step x in
      subst (λ (e : Emitting). Gives table (e frame) (loop_numbers (roll-Expr x)) (reading_of table (roll-Expr x) frame)) (sym made_is)
      (subst (λ (ns : List ℕ). Gives table (emitted_kind x.kind x.at frame) ns (reading_of table (roll-Expr x) frame)) (sym numbers_are)
      (subst (λ (r : Reading). Gives table (emitted_kind x.kind x.at frame) (numbers_of_kind x.kind) (r frame)) (sym (reading-roll table x)) (read x.at frame)))

  -- each expression
  pub is_read : (expr : Expr) → IsRead table expr
  is_read = ind-Expr (KindIsRead table) (IsRead table) (λ x y is. rolled x (subst LevelIsRead is (level y)))
      (λ x y is. rolled_expr x (subst (λ (z : one.Expr-F ExprKind Expr). KindIsRead table z.kind) is y.kind.1))

-- what an expression makes at the end of a draft, in every table in which other rows may follow and the functions of the
-- loops have their numbers
pub emitted_read : (table : Table) (expr : Expr) (frame : Frame) (draft : Draft) (others : List Row) → table.nodes ≡ (extended (emitted expr frame) draft).rows ++ others
    → HaveNumbers table.functions (loop_numbers expr) (emitted expr frame (length draft.rows)).loops → Reads table frame (answered (emitted expr frame) draft) expr
unfolding extended answered
emitted_read table expr frame draft others nodes_are numbers =
    let made = emitted expr frame (length draft.rows) in
    let nodes = nodes_are ∙ append_assoc draft.rows made.rows others in
    let rows = subst (λ (l : List Row). HasRows l (length draft.rows) made.rows) (sym nodes) (rows_between draft.rows made.rows others) in
    let exactly = subst (λ (ns : List ℕ). HaveNumbers table.functions ns (made.loops ++ [])) (sym (append-nil (loop_numbers expr)))
    (subst (λ (l : List Function). HaveNumbers table.functions (loop_numbers expr) l) (sym (append-nil made.loops)) numbers) in
    ((is_read table expr frame).gives (length draft.rows) [] [] rows exactly).0
