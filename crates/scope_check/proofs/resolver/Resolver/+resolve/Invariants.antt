use Rattle.std.proofs.Common.{◌+◌, ◌*◌, drop}
use Rattle.scope_check.specs.Heads.{bound}
use Rattle.scope_check.specs.Moves.{scope_in}
use Rattle.scope_check.specs.Parts.{each}
use Rattle.scope_check.specs.Value.{meanings}
use Rattle.scope_check.proofs.Remaining.{StillGives, StillBinds}
use Rattle.scope_check.proofs.resolver.Resolver.+resolve.Given as goal

abbrev pub invariant-bound-loop-index : goal.invariant-bound-loop-index
invariant-bound-loop-index l = StillBinds l.initial.self l.self l.exprs (bound (meanings (drop (2 * l.index) l.parts)) (scope_in l.self l.stand) l.self.loops) (bound (meanings l.parts) (scope_in l.initial.self l.stand) l.initial.self.loops)

abbrev pub invariant-each-loop-index : goal.invariant-each-loop-index
invariant-each-loop-index l = StillGives l.initial.self l.self l.depth l.exprs (each l.rule l.index (scope_in l.self l.stand) (meanings (drop l.index l.parts)) l.self.loops) (each l.rule 0 (scope_in l.initial.self l.stand) (meanings l.parts) l.initial.self.loops)

-- each call goes to what is less deep, or down this order
abbrev pub decreases-value : goal.decreases-value
decreases-value l = goal.size-value l * 64 + 0

abbrev pub decreases-misplaced : goal.decreases-misplaced
decreases-misplaced l = goal.size-misplaced l * 64 + 1

abbrev pub decreases-bind : goal.decreases-bind
decreases-bind l = goal.size-bind l * 64 + 1

abbrev pub decreases-binder : goal.decreases-binder
decreases-binder l = goal.size-binder l * 64 + 2

abbrev pub decreases-each : goal.decreases-each
decreases-each l = goal.size-each l * 64 + 10

abbrev pub decreases-applied : goal.decreases-applied
decreases-applied l = goal.size-applied l * 64 + 12

abbrev pub decreases-body : goal.decreases-body
decreases-body l = goal.size-body l * 64 + 13

abbrev pub decreases-map : goal.decreases-map
decreases-map l = goal.size-map l * 64 + 13

abbrev pub decreases-taking : goal.decreases-taking
decreases-taking l = goal.size-taking l * 64 + 14

abbrev pub decreases-exactly : goal.decreases-exactly
decreases-exactly l = goal.size-exactly l * 64 + 15

abbrev pub decreases-bound : goal.decreases-bound
decreases-bound l = goal.size-bound l * 64 + 17

abbrev pub decreases-cond : goal.decreases-cond
decreases-cond l = goal.size-cond l * 64 + 18

abbrev pub decreases-and : goal.decreases-and
decreases-and l = goal.size-and l * 64 + 18

abbrev pub decreases-or : goal.decreases-or
decreases-or l = goal.size-or l * 64 + 18

abbrev pub decreases-around : goal.decreases-around
decreases-around l = goal.size-around l * 64 + 19

abbrev pub decreases-recur : goal.decreases-recur
decreases-recur l = goal.size-recur l * 64 + 20

abbrev pub decreases-let_form : goal.decreases-let_form
decreases-let_form l = goal.size-let_form l * 64 + 20

abbrev pub decreases-loop_form : goal.decreases-loop_form
decreases-loop_form l = goal.size-loop_form l * 64 + 20

abbrev pub decreases-started : goal.decreases-started
decreases-started l = goal.size-started l * 64 + 21

abbrev pub decreases-start_form : goal.decreases-start_form
decreases-start_form l = goal.size-start_form l * 64 + 22

abbrev pub decreases-special : goal.decreases-special
decreases-special l = goal.size-special l * 64 + 28

abbrev pub decreases-called : goal.decreases-called
decreases-called l = goal.size-called l * 64 + 29

abbrev pub decreases-worded : goal.decreases-worded
decreases-worded l = goal.size-worded l * 64 + 30

abbrev pub decreases-list : goal.decreases-list
decreases-list l = goal.size-list l * 64 + 40

abbrev pub decreases-begin : goal.decreases-begin
decreases-begin l = goal.size-begin l * 64 + 18
