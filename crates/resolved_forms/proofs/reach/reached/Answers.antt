use Rattle.std.proofs.Common.{◌≡◌, ◌↔◌, ℕ, suc, ◌+◌, ◌<◌, List, length, sym, ap, ◌∙◌, subst, arith}
use Rattle.std.specs.Prelude.{All, Contains}
use Rattle.std.proofs.lemmas.List.Elements.{All-same}
use Rattle.resolved_forms.specs.declared.uses.Uses.{Uses}
use Rattle.resolved_forms.specs.Reach.{AreReached, Names, globals_named, units_named}
use Rattle.resolved_forms.specs.Users.{AreUsers}
use Rattle.resolved_forms.proofs.Noting.{users_there, direct_users, written_back}
use Rattle.resolved_forms.proofs.reach.reached.Goals as goal

pub spread-requires-clause-callers : goal.spread-requires-clause-callers
spread-requires-clause-callers c =
    let long : length c.args.uses.now ≡ length c.deref_mut.result.now = sym c.loop-global.invariant.as_many ∙ sym (ap length c.deref_mut.ensures.value) in
    let are : AreUsers units_named c.args.uses.now (length c.args.uses.now) c.in_ok-users.users.of_units.items =
    subst (λ (us : List Uses). AreUsers units_named us (length us) c.in_ok-users.users.of_units.items) c.items.ensures c.in_ok-users.ensures.units in
    subst (λ (n : ℕ). All (λ (l : List ℕ). All (λ u. u < n) l) c.deref.result.now) long
    (All-same (λ (l : List ℕ). All (λ u. u < length c.args.uses.now) l) _ _ c.deref.ensures.value (users_there units_named c.args.uses.now (length c.args.uses.now) c.in_ok-users.users.of_units.items are))

pub spread-requires-clause-users : goal.spread-requires-clause-users
spread-requires-clause-users c =
    let long : length c.args.uses.now ≡ length c.deref_mut.result.now = sym c.loop-global.invariant.as_many ∙ sym (ap length c.deref_mut.ensures.value) in
    let are : AreUsers globals_named c.args.uses.now c.args.globals c.in_ok-users.users.of_globals.items =
    subst (λ (us : List Uses). AreUsers globals_named us c.args.globals c.in_ok-users.users.of_globals.items) c.items.ensures c.in_ok-users.ensures.globals in
    subst (λ (n : ℕ). All (λ u. u < n) c.items-direct.result.now) long
    (All-same (λ u. u < length c.args.uses.now) _ _ (c.items-direct.ensures ∙ c.index.ensures)
    (users_there globals_named c.args.uses.now c.args.globals c.in_ok-users.users.of_globals.items are c.loop-global.global c.index.result.now (omega (arith, are.as_many))))

pub loop-global-preserved : goal.loop-global-preserved
loop-global-preserved c =
    let uses = c.args.uses.now in
    let global = c.loop-global.global in
    let of_globals = c.in_ok-users.users.of_globals.items in
    let globals_are : AreUsers globals_named uses c.args.globals of_globals = subst (λ (us : List Uses). AreUsers globals_named us c.args.globals of_globals) c.items.ensures c.in_ok-users.ensures.globals in
    let units_are : AreUsers units_named uses (length uses) c.in_ok-users.users.of_units.items =
    subst (λ (us : List Uses). AreUsers units_named us (length us) c.in_ok-users.users.of_units.items) c.items.ensures c.in_ok-users.ensures.units in
    let are : AreUsers units_named uses (length uses) c.deref.result.now = subst (λ (l : List (List ℕ)). AreUsers units_named uses (length uses) l) (sym c.deref.ensures.value) units_are in
    let named : (unit : ℕ) → Contains c.items-direct.result.now unit ↔ Names globals_named uses unit global =
    subst (λ (l : List ℕ). (unit : ℕ) → Contains l unit ↔ Names globals_named uses unit global) (sym (c.items-direct.ensures ∙ c.index.ensures))
    (direct_users uses c.args.globals global of_globals c.index.result.now globals_are (omega arith)) in
    let before : AreReached uses global c.deref_mut.result.now = subst (λ (l : List (List ℕ)). AreReached uses global l) (sym c.deref_mut.ensures.value) c.loop-global.invariant in
    let after : AreReached uses (suc global) c.spread.new.lists = c.in_ok-spread.ensures uses are named before in
    let one : suc global ≡ global + 1 = omega arith in
    let kept : length c.spread.new.lists ≡ c.loop-global.lists.len = omega (arith, after.as_many, c.loop-global.invariant.as_many) in
    subst (λ (l : List (List ℕ)). AreReached uses (global + 1) l) (sym (written_back c.loop-global.lists.len c.spread.new.lists c.loop-global.lists.items kept))
    (subst (λ (n : ℕ). AreReached uses n c.spread.new.lists) one after)
