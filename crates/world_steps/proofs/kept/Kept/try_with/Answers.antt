use Rattle.std.proofs.Common.{◌∙◌, ap, subst, sym}
use Rattle.std.specs.Option.{option_and_then}
use Rattle.world_steps.proofs.Trying.{fresh-again}
use Rattle.world_steps.specs.Kept.{shared_of}
use Rattle.world_steps.proofs.kept.Kept.try_with.Goals as goal
use Rattle.shared_world.specs.rows.Attempts.{IsFreshAttempt}
use Rattle.shared_world.specs.Shared.{Shared}
use Rattle.unit_table.specs.Piece.{unit_in}
use Rattle.value_core.specs.Named.{named, with_named}

pub returns-clause-tried : goal.returns-clause-tried
returns-clause-tried c =
    let old = shared_of c.args.self.now in
    let mid = c.trying.new.self in
    let name = c.args.name.now in
    let same = c.in_ok-trying.ensures.same in
    let trying = c.in_ok-trying.ensures.trying in
    record {
      tree = c.in_ok-tree.tree;
      fresh = λ x there.
          let here = ap (option_and_then unit_in) (same.pieces name) ∙ there in
          fresh-again old mid.units name x c.args.body c.args.values c.args.at c.in_ok-tree.tree
          (subst (λ (s : Shared). IsFreshAttempt s name x c.args.body c.args.values c.args.at c.in_ok-tree.tree) same.rest (c.in_ok-tree.ensures x here (trying.room.names x here)));
      free = ap (λ (s : Shared). named name s.attempts) (sym same.rest) ∙ trying.free;
      room = record { names = trying.room.names; none = trying.room.none; place = trying.room.place; owner_place = trying.room.owner_place };
      same = record { pieces = same.pieces; claims = same.claims; rest = ap (λ (s : Shared). record s { attempts = old.attempts }) same.rest };
      attempts = c.in_ok-put.ensures.put ∙ ap (λ n. with_named mid.attempts.entries n c.in_ok-tree.tree) c.in_ok-key.ensures ∙ ap (λ (s : Shared). with_named s.attempts name c.in_ok-tree.tree) same.rest;
    }
