use Rattle.std.proofs.Common.{◌∙◌, ap, refl, subst, sym}
use Rattle.std.specs.Prelude.{Some}
use Rattle.attempts_gone.proofs.Live.{taken}
use Rattle.value_core.proofs.NameMaps.{found_named}
use Rattle.world_reset.proofs.putting.put_all.Goals as goal
use Rattle.world_reset.proofs.Returned.{LeftAt, all-back, all-left, can-put, has-room, no-more, one-less, out-then}
use Rattle.world_steps.specs.declared.kept.Kept.{Kept}

pub loop-entry-init : goal.loop-entry-init
loop-entry-init c = record {
  left = all-left c.args.kept.now c.args.plan.entries c.requires.planned c.requires.settled;
  claims = λ t none. none;
  others = refl;
}

pub put_one-requires-clause-can_be : goal.put_one-requires-clause-can_be
put_one-requires-clause-can_be c =
    let name = c.in-Some.entry.0 in
    let back = c.in-Some.entry.1 in
    let there = found_named name c.loop-entry.plan (Some back) back (sym c.in-Some.ensures.value) refl in
    can-put c.args.kept.now c.loop-entry.kept name back (subst (LeftAt c.args.kept.now c.loop-entry.kept name) there (c.loop-entry.invariant.left name))

pub put_one-requires-clause-room : goal.put_one-requires-clause-room
put_one-requires-clause-room c =
    let name = c.in-Some.entry.0 in
    let back = c.in-Some.entry.1 in
    let there = found_named name c.loop-entry.plan (Some back) back (sym c.in-Some.ensures.value) refl in
    has-room c.args.kept.now c.loop-entry.kept name back (subst (LeftAt c.args.kept.now c.loop-entry.kept name) there (c.loop-entry.invariant.left name))

pub loop-entry-preserved : goal.loop-entry-preserved
loop-entry-preserved c =
    let name = c.in-Some.entry.0 in
    let back = c.in-Some.entry.1 in
    let new = c.put_one.new.kept in
    let there = found_named name c.loop-entry.plan (Some back) back (sym c.in-Some.ensures.value) refl in
    record {
      left = one-less c.args.kept.now c.loop-entry.kept new c.loop-entry.plan.entries c.pop_first.new.self.entries name back there (taken name c.loop-entry.plan.entries c.pop_first.new.self.entries c.in-Some.ensures.updates.0)
          c.requires.settled c.put_one.ensures.put c.loop-entry.invariant.left;
      claims = out-then c.args.kept.now.units c.loop-entry.kept.units new.units c.loop-entry.invariant.claims c.put_one.ensures.put.claims;
      others = c.put_one.ensures.others ∙ ap (λ (k : Kept). record k { units = new.units; mails = new.mails; taken = new.taken }) c.loop-entry.invariant.others;
    }

pub returns-clause-pieces : goal.returns-clause-pieces
returns-clause-pieces c = λ u.
    let all = all-back c.args.kept.now c.loop-entry.kept c.loop-entry.plan.entries (no-more c.loop-entry.plan.entries (λ some. let no = c.in_default.ensures.variant.1 some in cc)) c.loop-entry.invariant.left u in all.piece

pub returns-clause-mails : goal.returns-clause-mails
returns-clause-mails c = λ u.
    let all = all-back c.args.kept.now c.loop-entry.kept c.loop-entry.plan.entries (no-more c.loop-entry.plan.entries (λ some. let no = c.in_default.ensures.variant.1 some in cc)) c.loop-entry.invariant.left u in all.mail
