-- Claims that are given out, and claims that end.
use Rattle.std.proofs.Common.{◌≡◌, ◌∙◌, Bool, true, false, cond, refl, sym, ap, ap₂, subst, true≢false}
use Rattle.std.specs.Option.{option_and_then}
use Rattle.std.specs.Prelude.{IfNone, IfSome, None, Option, Some, ◌&&◌, if◌then◌else◌}
use Rattle.core_syntax.specs.Table.{Table}
use Rattle.lent_pieces.specs.Claims.{IsAbandoned}
use Rattle.piece_table.specs.Table.{is_free}
use Rattle.serial_model.specs.Standing.{Start}
use Rattle.shared_world.proofs.ActorPieces.{same-pieces-actors}
use Rattle.shared_world.proofs.Standing.{same-states}
use Rattle.shared_world.proofs.States.{machines-same, same-pieces}
use Rattle.shared_world.specs.Shared.{Shared, claimed, is_going, kept_machine, machine_in, ready, tree_with}
use Rattle.shared_world.specs.Stands.{IsMachine, IsUnderWay, Stands}
use Rattle.task_fork_join.specs.Attempt.{Attempt, going as machine_in_task, machine_of}
use Rattle.task_fork_join.specs.declared.task.Stage.{Stage}
use Rattle.task_fork_join.specs.declared.task.Stage.TheVariants as stage
use Rattle.task_fork_join.specs.declared.task.Task.{Task}
use Rattle.task_fork_join.specs.Running.{HasMachine}
use Rattle.unit_table.specs.Board.{AreTied, Board, IsUnlent, LentAreReady, SameClaims, SamePieces, but_for, is_ready, lent_at, lent_to, marks_ready, piece_at}
use Rattle.unit_table.specs.declared.piece.Piece.{Piece}
use Rattle.unit_table.specs.declared.piece.Piece.TheVariants as piece
use Rattle.unit_table.specs.Piece.{unit_in}
use Rattle.value_core.proofs.NamedLaws.{same_name-equal, same_name-itself}
use Rattle.value_core.specs.declared.ticket.Ticket.{Ticket}
use Rattle.value_core.specs.Named.{Name, named, same_name}
use Rattle.world_claim.specs.Lent.{IsMachineOf}

-- ---- what is kept of a piece
-- the machine of a task is one of the program
of-task : (table : Table) (start : Start) → start.program ≡ table → (t : Task) → HasMachine start t.stage → IsMachineOf table (machine_in_task t)
of-task table start same t has = on t.stage has
  where
    on : (k : Stage) → HasMachine start k → IsMachineOf table (machine_in_task (record t { stage = k }))
    on (stage.Going machine) is = subst (λ of. IsMachineOf of (Some machine)) same is.of
    on (stage.Closing closing) is = subst (λ of. IsMachineOf of (Some closing.machine)) same is.machine.of
    on (stage.Ended ended) is = tt

of-attempt : (s : Shared) (u : Name) (tree : Attempt) → IsUnderWay s u tree → (name : Name) → IsMachineOf s.setup.program (machine_of tree name)
of-attempt s u tree way name = on (named name tree.tasks) refl
  where
    on : (found : Option Task) → named name tree.tasks ≡ found → IsMachineOf s.setup.program (option_and_then machine_in_task found)
    on None is = tt
    on (Some t) is = of-task s.setup.program _ refl t (way.runs.members name t is).machine

of-tree : (s : Shared) → Stands s → is_going s.end ≡ true → (name : Name) → IsMachineOf s.setup.program (option_and_then (λ (tree : Attempt). machine_of tree name) (tree_with s name))
of-tree s st going name = on (named name s.owners)
  where
    at : (u : Name) (found : Option Attempt) → named u s.attempts ≡ found → IsMachineOf s.setup.program (option_and_then (λ (tree : Attempt). machine_of tree name) found)
    at u None is = tt
    at u (Some tree) is = of-attempt s u tree (st.attempts going u tree is) name

    on : (owner : Option Name) → IsMachineOf s.setup.program (option_and_then (λ (tree : Attempt). machine_of tree name) (option_and_then (λ u. named u s.attempts) owner))
    on None = tt
    on (Some u) = at u (named u s.attempts) refl

-- the machine that is kept of a piece is one of the program
pub kept-is-of : (s : Shared) → Stands s → is_going s.end ≡ true → (name : Name) → IsMachineOf s.setup.program (kept_machine s name)
kept-is-of s st going name = on (piece_at s.board name) refl
  where
    on : (found : Option Piece) → piece_at s.board name ≡ found → IsMachineOf s.setup.program (option_and_then (machine_in s name) found)
    on None is = tt
    on (Some (piece.Unit x)) is = (st.machines name x (ap (option_and_then unit_in) is)).of
    on (Some (piece.Task m)) is = of-tree s st going name
    on (Some (piece.Actor a)) is = tt

some-same : (x y : Name) → Some x ≡ Some y → x ≡ y
some-same x y e = cc

-- ---- what is ready
pub and-left : (a b : Bool) → (a && b) ≡ true → a ≡ true
and-left true b is = refl
and-left false b is = is

and-right : (a b : Bool) → (a && b) ≡ true → b ≡ true
and-right true b is = is
and-right false b is = absurd (true≢false (sym is))

-- where a piece is ready its mark says so
pub ready-marks : (s : Shared) (name : Name) → ready s name ≡ true → marks_ready (piece_at s.board name) ≡ true
ready-marks s name is =
    and-left (marks_ready (piece_at s.board name)) (is_free (lent_at s.board name)) (and-right (is_going s.end) (is_ready s.board name) is)

-- where a piece is ready the run goes on
pub ready-goes : (s : Shared) (name : Name) → ready s name ≡ true → is_going s.end ≡ true
ready-goes s name is = and-left (is_going s.end) (is_ready s.board name) is

-- ---- what stands on
-- where the pieces stay, and all else but claims and room, what is kept stands
pub pieces-stand : (old new : Shared) → Stands old → SamePieces old.board new.board → new ≡ record old { board = new.board } → Stands new
pieces-stand old new st same rest = subst Stands (sym rest) (same-states old st new.board (same-pieces old.board new.board same) (same-pieces-actors old.board new.board same) (machines-same (IsMachine old.setup) old.board new.board same st.machines))

-- ---- claims that end
module _ (old : Shared) (ticket : Ticket) (b : Board) (same : SamePieces old.board b) where
  -- a piece that is lent as it was is ready where it was
  same-ready : (name : Name) → lent_at b name ≡ lent_at old.board name → is_ready b name ≡ is_ready old.board name
  same-ready name lent = ap₂ (λ p claim. marks_ready p && is_free claim) (same name) lent

  same-claimed : (t : Ticket) → lent_to b t ≡ lent_to old.board t → claimed (record old { board = b }) t ≡ claimed old t
  same-claimed t is = ap (λ found. if is_going old.end then found else None) is

  -- where the claim was not out, nothing changes
  stayed : lent_to old.board ticket ≡ None → SameClaims old.board b → IsAbandoned ticket old (record old { board = b })
  stayed none claims = record {
    unclaimed = record { pieces = same; here = same-claimed ticket (claims.to ticket) ∙ not-out; others = λ other ne. same-claimed other (claims.to other); rest = refl };
    again = λ name out. let no : None ≡ Some name = sym not-out ∙ out in cc;
    others = λ name apart_so. ap (λ c. is_going old.end && c) (same-ready name (claims.lent name));
    later = claims.later;
  }
    where
      none-out : (going : Bool) → (if going then lent_to old.board ticket else None) ≡ None
      none-out true = none
      none-out false = refl

      not-out : claimed old ticket ≡ None
      not-out = none-out (is_going old.end)

  module _ (name : Name) (there : lent_to old.board ticket ≡ Some name) (tied : AreTied old.board) (can : LentAreReady old.board) (ends : IsUnlent name old.board b) where
    -- no other claim lends that piece
    apart : (other : Ticket) → (other ≡ ticket → ⊥) → (q : Name) → lent_to old.board other ≡ Some q → same_name q name ≡ false
    apart other ne q is = on (same_name q name) refl
      where
        on : (c : Bool) → same_name q name ≡ c → c ≡ false
        on false e = refl
        on true e =
            let one = tied.lends other name (is ∙ ap Some (same_name-equal q name e)) in
            let two = tied.lends ticket name there in
            let both : Some other ≡ Some ticket = sym one ∙ two in
            absurd (ne cc)

    lends-still : (other : Ticket) → (other ≡ ticket → ⊥) → lent_to b other ≡ lent_to old.board other
    lends-still other ne = ends.to other ∙ on (lent_to old.board other) refl
      where
        on : (found : Option Name) → lent_to old.board other ≡ found → but_for name found ≡ found
        on None is = refl
        on (Some q) is = ap (λ c. cond c None (Some q)) (apart other ne q is)

    lends-none : lent_to b ticket ≡ None
    lends-none = ends.to ticket ∙ ap (but_for name) there ∙ ap (λ c. cond c None (Some name)) (same_name-itself name)

    ended : IsAbandoned ticket old (record old { board = b })
    ended = record {
      unclaimed = record { pieces = same; here = nothing (is_going old.end) (lent_to b ticket) lends-none; others = λ other ne. same-claimed other (lends-still other ne); rest = refl };
      again = λ q out. again q (is_going old.end) refl out;
      others = λ q apart_so. others q apart_so (is_going old.end) refl;
      later = ends.later;
    }
      where
        nothing : (going : Bool) (found : Option Name) → found ≡ None → (if going then found else None) ≡ None
        nothing true found none = none
        nothing false found none = refl

        again : (q : Name) (going : Bool) → is_going old.end ≡ going → (if going then lent_to old.board ticket else None) ≡ Some q → (going && is_ready b q) ≡ true
        again q true e out =
            let is : name ≡ q = some-same name q (sym there ∙ out) in
            ap₂ (λ p claim. marks_ready p && is_free claim) (same q) (subst (λ n. lent_at b n ≡ None) is ends.here) ∙ ap (λ c. c && true) (can ticket q out)
        again q false e out = cc

        others : (q : Name) → (claimed old ticket ≡ Some q → ⊥) → (going : Bool) → is_going old.end ≡ going → (going && is_ready b q) ≡ (going && is_ready old.board q)
        others q apart_so true e = same-ready q (ends.others q (λ is. apart_so (ap (λ g. if g then lent_to old.board ticket else None) e ∙ there ∙ ap Some (sym is))))
        others q apart_so false e = refl

  pub abandoned : AreTied old.board → LentAreReady old.board → IfSome (lent_to old.board ticket) (λ name. IsUnlent name old.board b) → IfNone (lent_to old.board ticket) (SameClaims old.board b) → IsAbandoned ticket old (record old { board = b })
  abandoned tied can ends claims = on (lent_to old.board ticket) refl ends claims
    where
      on : (found : Option Name) → lent_to old.board ticket ≡ found → IfSome found (λ name. IsUnlent name old.board b) → IfNone found (SameClaims old.board b) → IsAbandoned ticket old (record old { board = b })
      on None is ends claims = stayed is claims
      on (Some name) is ends claims = ended name is tied can ends
