use Rattle.std.proofs.Common.{◌∙◌, ap}
use Rattle.std.proofs.lemmas.Result.{on_ok_weaker}
use Rattle.shared_map.proofs.in_order.+name.Goals as goal
use Rattle.shared_map.proofs.NameLaws.{names_pushed}
use Rattle.shared_map.specs.declared.node.Entry.{Entry}

pub push_node_names-returns : goal.push_node_names-returns
push_node_names-returns g t c =
    on_ok_weaker c.push_names-2.result (λ is. names_pushed c.args.node.now c.args.names.now.items c.push_names.new.names.items c.push.new.self.items c.push_names-2.new.names.items c.in_ok-copy.field-0
    c.in_ok-push_names.ensures (c.in_ok-copy.ensures ∙ ap (λ (e : Entry g.row.V.Denot). e.name) c.deref.ensures) c.in_ok-push.ensures.items is) c.push_names-2.ensures
