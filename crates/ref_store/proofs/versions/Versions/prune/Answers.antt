use Rattle.std.proofs.Common.{◌≡◌, ℕ, ◌-◌, ◌≤◌, Bool, true, false, cond, List, length, sym, ap, subst, vec_capacity, arith}
use Rattle.std.specs.Vec.{vec_len}
use Rattle.value_core.specs.Roomy.{Roomy}
use Rattle.ref_store.specs.declared.version.Version.{Version}
use Rattle.ref_store.specs.Pruned.{IsPruned}
use Rattle.ref_store.specs.Version.{NumbersRise}
use Rattle.ref_store.proofs.PruneLaws.{staying-rises, staying-shorter, staying_pruned}
use Rattle.ref_store.proofs.versions.Versions.prune.Goals as goal

pub invariant_of-self : goal.invariant_of-self
invariant_of-self g c = subst (λ (vs : List Version). NumbersRise vs) (sym c.prune.ensures.items) (staying-rises (g.L.Live.numbers c.args.live.now) c.self.inside.all.items c.self.invariant)

-- fewer items leave as much room or more
more_room : (reserved : Bool) (capacity new_capacity len new_len : ℕ) → new_capacity ≡ capacity → new_len ≤ len → cond reserved (capacity - len) 0 ≤ cond reserved (new_capacity - new_len) 0
more_room true capacity new_capacity len new_len same shorter = omega arith
more_room false capacity new_capacity len new_len same shorter = omega arith

pub returns-clause-room : goal.returns-clause-room
returns-clause-room g c =
    let shorter = staying-shorter (g.L.Live.numbers c.args.live.now) c.self.inside.all.items in
    let kept = ap length c.prune.ensures.items in
    subst (λ n. n ≤ cond c.self.inside.is_reserved (vec_capacity c.prune.new.versions - vec_len c.prune.new.versions) 0) (ap (λ (r : Roomy Version). r.room) c.self.view_is)
    (more_room c.self.inside.is_reserved (vec_capacity c.self.inside.all) (vec_capacity c.prune.new.versions) (vec_len c.self.inside.all) (vec_len c.prune.new.versions) c.prune.ensures.capacity
    (omega (arith, c.prune.new.versions.ok.0, c.self.inside.all.ok.0, shorter, kept)))

pub returns-clause-pruned : goal.returns-clause-pruned
returns-clause-pruned g c =
    let old = ap (λ (r : Roomy Version). r.items) c.self.view_is in
    subst (λ (vs : List Version). IsPruned (g.L.Live.numbers c.args.live.now) vs c.prune.new.versions.items) old
    (subst (λ (vs : List Version). IsPruned (g.L.Live.numbers c.args.live.now) c.self.inside.all.items vs) (sym c.prune.ensures.items) (staying_pruned (g.L.Live.numbers c.args.live.now) c.self.inside.all.items c.self.invariant))
