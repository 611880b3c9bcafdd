use Rattle.std.proofs.Common.{◌≡◌, ◌∙◌, ◌∷◌, ◌++◌, [], length, arith, refl, sym, ap, subst, suc}
use Rattle.std.specs.Option.{IsSome, option_and_then}
use Rattle.actor_mailbox.specs.declared.message.Message.{Message}
use Rattle.actor_mails.specs.Mails.{Mail, held}
use Rattle.attempt_commits.proofs.Committing.{committed-so, done-still, moved-there, moves-on, still-there, tasks-gone, undone-again, vacant-after}
use Rattle.attempt_commits.proofs.Committing.{at-attempt}
use Rattle.world_steps.proofs.Settling.{at-unit}
use Rattle.attempt_commits.specs.Committing.{IsGatheredOf}
use Rattle.attempt_commits.specs.Deeds.{AreDone}
use Rattle.world_steps.specs.declared.kept.Kept.{Kept}
use Rattle.world_steps.specs.Kept.{shared_of}
use Rattle.ref_store.specs.Store.{committed}
use Rattle.serial_model.specs.declared.entry.Entry.TheVariants.{Run}
use Rattle.shared_world.specs.rows.Attempts.{ArePrunedFor}
use Rattle.shared_world.specs.Shared.{Shared}
use Rattle.task_fork_join.specs.Attempt.{Attempt, names_in}
use Rattle.unit_table.specs.declared.unit.Unit.{Unit}
use Rattle.unit_table.specs.Piece.{unit_in}
use Rattle.value_core.specs.Named.{Named, named}
use Rattle.value_core.specs.Placed.{filled}
use Rattle.attempt_commits.proofs.commits.commit.Goals as goal

pub prune-requires-clause-room : goal.prune-requires-clause-room
prune-requires-clause-room c =
    let has = c.requires.attempt.has in
    let u = c.args.owner.now in
    let same = ap (λ (k : Kept). length k.attempts.entries) c.in_ok-prepared.ensures.others in
    let g = at-attempt (named u c.args.kept.now.attempts.entries) (λ (t : Attempt). IsGatheredOf u t c.args.kept.now.attempts.entries c.in_ok-prepared.prepared.gathered) has.tree has.attempt c.in_ok-prepared.ensures.prepared.gathered in
    let fewer = c.drop_attempt-tasks.ensures.fewer in
    let room = g.room in omega (arith, fewer, same, room)

pub settle-given-requires-clause-there : goal.settle-given-requires-clause-there
settle-given-requires-clause-there c =
    subst IsSome
    (sym (ap (option_and_then unit_in) (still-there (shared_of c.args.kept.now) (shared_of c.prepare.new.kept) c.args.owner.now c.requires.attempt.has c.drop_attempt-tasks.new.attempts.entries c.drop_attempt-tasks.new.units c.in_ok-prepared.ensures.same c.drop_attempt-tasks.ensures.gone)))
    refl

pub do_deeds-requires-clause-there : goal.do_deeds-requires-clause-there
do_deeds-requires-clause-there c =
    let p = c.in_ok-prepared.prepared in
    moved-there (shared_of c.args.kept.now) (shared_of c.prepare.new.kept) c.args.owner.now c.requires.attempt.has c.drop_attempt-tasks.new.attempts.entries c.drop_attempt-tasks.new.units c.in_ok-prepared.ensures.same c.drop_attempt-tasks.ensures.gone p.ready.machine
    p.made c.settle-given.new.self.units c.settle-given.ensures.set

pub do_deeds-requires-clause-actors : goal.do_deeds-requires-clause-actors
do_deeds-requires-clause-actors c =
    let old = shared_of c.args.kept.now in
    let base = shared_of c.prepare.new.kept in
    let p = c.in_ok-prepared.prepared in
    let has = c.requires.attempt.has in
    let u = c.args.owner.now in
    let left = c.drop_attempt-tasks.new.attempts.entries in
    let mid = c.drop_attempt-tasks.new.units in
    let new = c.settle-given.new.self.units in
    let same = c.in_ok-prepared.ensures.same in
    let gone = c.drop_attempt-tasks.ensures.gone in
    vacant-after p.gathered.deeds.actors.entries (names_in has.tree.tasks) u has.unit p.ready.machine p.made base.board mid new c.in_ok-prepared.ensures.prepared.actors (tasks-gone old base u has left mid same gone) c.drop_attempt-tasks.ensures.places
    (still-there old base u has left mid same gone) (moves-on old base u has left mid same gone p.ready.machine p.made new c.settle-given.ensures.set)

pub returns : goal.returns
returns c =
    let old = shared_of c.args.kept.now in
    let base = shared_of c.prepare.new.kept in
    let new = shared_of (record c.do_deeds.new.kept { units = c.forget_tasks.new.units }) in
    let u = c.args.owner.now in
    let p = c.in_ok-prepared.prepared in
    let g = p.gathered in
    let is = c.in_ok-prepared.ensures.prepared in
    let same = c.in_ok-prepared.ensures.same in
    let left = c.drop_attempt-tasks.new.attempts.entries in
    let mid = c.drop_attempt-tasks.new.units in
    let settled = c.settle-given.new.self in
    let bytes : c.extend_from_slice.new.self.items ≡ old.bytes ++ g.text.items =
    c.in-Ok.ensures.items ∙ ap (λ t. base.bytes ++ t) c.as_slice.ensures.value ∙ ap (λ (s : Shared). s.bytes ++ g.text.items) same.rest in
    let is_new : new ≡ record (shared_of settled) { board = new.board; mails = new.mails; taken = new.taken } = ap (λ (k : Kept). shared_of (record k { units = c.forget_tasks.new.units })) c.do_deeds.ensures.others in
    let so = is_new ∙ ap (λ (s : Shared). record s { board = new.board; mails = new.mails; taken = new.taken }) c.settle-given.ensures.others in
    let versions : new.versions ≡ c.prune.new.store.versions = ap (λ (s : Shared). s.versions) so in
    let taken : filled settled.taken ≡ old.taken = ap (λ (k : Kept). filled k.taken) c.settle-given.ensures.rest ∙ ap (λ (s : Shared). s.taken) same.rest in
    let mails : held settled.mails ≡ old.mails = ap (λ (k : Kept). held k.mails) c.settle-given.ensures.rest ∙ ap (λ (s : Shared). s.mails) same.rest in
    committed-so old new mid settled.units left u is.ready.machine p.ready.machine c.args.value p.made p.number g c.settle-given.result c.requires.stands c.requires.going
    (undone-again old base u left mid same c.drop_attempt-tasks.ensures.gone)
    is.ready.standing.unit
    is.ready.ready.given
    (λ tree attempt. (at-attempt (named u old.attempts) (λ (t : Attempt). IsGatheredOf u t old.attempts g) tree attempt is.gathered).has)
    (λ x there. at-unit old.board u (λ (y : Unit). p.made ≡ suc y.made) x there is.made)
    is.number
    (subst (λ vs. ArePrunedFor left (committed old.versions g.writes.items p.number) vs) (sym versions)
    (subst (λ vs. ArePrunedFor left vs c.prune.new.store.versions) (c.commit.ensures.versions ∙ ap (λ (s : Shared). committed s.versions g.writes.items p.number) same.rest) c.prune.ensures.pruned))
    c.settle-given.ensures.found c.settle-given.ensures.set
    (λ a some. sym (same.pieces a) ∙ (is.actors a some).none)
    p.turns.entries is.turns c.claims_are_tied.ensures c.claims_are_tied-2.ensures c.requires.attempt.level
    (subst (λ (t : Named Message). AreDone u g.root p.turns.entries g.deeds t new.taken old.mails new.mails settled.units new.board) taken
    (subst (λ (m : Mail). AreDone u g.root p.turns.entries g.deeds (filled settled.taken) new.taken m new.mails settled.units new.board) mails
    (done-still u g.root p.turns.entries g.deeds (filled settled.taken) new.taken (held settled.mails) new.mails settled.units c.do_deeds.new.kept.units new.board c.do_deeds.ensures.done c.forget_tasks.ensures.pieces c.forget_tasks.ensures.claims)))
    (so
    ∙ ap (λ (s : Shared). record s { history = s.history ++ Run u ∷ []; versions = c.prune.new.store.versions; attempts = left; bytes = c.extend_from_slice.new.self.items; board = new.board; mails = new.mails; taken = new.taken }) same.rest
    ∙ ap (λ b. record old { history = old.history ++ Run u ∷ []; versions = c.prune.new.store.versions; attempts = left; bytes = b; board = new.board; mails = new.mails; taken = new.taken }) bytes
    ∙ ap (λ vs. record old { history = old.history ++ Run u ∷ []; versions = vs; attempts = left; bytes = old.bytes ++ g.text.items; board = new.board; mails = new.mails; taken = new.taken }) (sym versions))
