-- Mail may be moved into a thread, and seen from several.
use denote.Param.Send.{IsSend, IsSync, sendable}
use denote.Param.SendFields.{as_row_send, as_row_sync, declared_send, declared_sync, variants_send, variants_sync}
use Rattle.std.proofs.Crossing.{crosses}
use Rattle.std.proofs.MapsCrossing as maps
use Rattle.actor_mailbox.specs.contracts.mailbox.Mailbox as mailbox
use Rattle.actor_mailbox.specs.contracts.message.Message as message
use Rattle.actor_mails.specs.contracts.mails.Mails as mails
use Rattle.value_core.proofs.Crossing.{name_send, values_send, values_sync}
use Rattle.value_core.proofs.name.Name.TheSendSync as name

-- what a type's parts give it
ruleset sends = (variants_send, declared_send, as_row_send, crosses, sendable)

ruleset syncs = (variants_sync, declared_sync, as_row_sync, crosses, sendable)

pub message_send : IsSend message.the_row
message_send = search (name_send, values_send, sends) depth 60 fits 20000

pub message_sync : IsSync message.the_row
message_sync = search (name.the_sync, values_sync, syncs) depth 60 fits 20000

pub mailbox_send : IsSend mailbox.the_row
mailbox_send = search (message_send, sends) depth 60 fits 20000

pub mailbox_sync : IsSync mailbox.the_row
mailbox_sync = search (message_sync, syncs) depth 60 fits 20000

pub mails_send : IsSend mails.the_row
mails_send = search (name_send, mailbox_send, maps.crosses, sends) depth 60 fits 20000

pub mails_sync : IsSync mails.the_row
mails_sync = search (name.the_sync, mailbox_sync, maps.crosses, syncs) depth 60 fits 20000
