-- A group behind a lock may be shared by threads, and it, its passes and its notes may go to another, where its servant and
-- its keeper may. Laws for callers: a proof that a closure or a struct with one of these may cross cites them.
use denote.RattleType.{RattleType}
use denote.Param.Send.{IsSend, IsSync, sendable}
use Rattle.std.proofs.Crossing.{crosses}
use Rattle.std.proofs.MapsCrossing.{crosses as maps}
use Rattle.hist_lock.specs.Sending.{lock_sync, lock_send, pass_send, note_send}
use Rattle.hist_lock.specs.contracts.locks.HistLock as locks
use Rattle.hist_lock.specs.contracts.passes.Note as notes
use Rattle.hist_lock.specs.contracts.passes.Pass as passes
use Rattle.ft_base.specs.contracts.requests.Key as keys
use Rattle.ft_base.specs.contracts.requests.Outcome as outcomes
use Rattle.ft_base.specs.contracts.requests.Request as requests
use Rattle.ft_base.specs.contracts.text.Bytes as octets
use Rattle.ft_base.specs.contracts.text.Name as names
use Rattle.ft_base.specs.contracts.views.View as views
use Rattle.ft_base.specs.declared.servants.Servant.{Ghosts as ServantGhosts}
use Rattle.ft_outside.specs.declared.keepers.Keeper.{Ghosts as KeeperGhosts}
use Rattle.iogr_reference.specs.contracts.lists.Ports as ports
use Rattle.reply_table.specs.contracts.entries.Retained as retained
use Rattle.reply_table.specs.contracts.tables.ReplyTable as tables
use Rattle.message_log.specs.contracts.entries.Entry as entries
use Rattle.message_log.specs.contracts.logs.Log as logs
use Rattle.ft_replica.specs.contracts.replicas.Replica as replicas
use Rattle.active_sequencer.specs.contracts.holding.Holdback as holdbacks
use Rattle.group_hosts.specs.contracts.founding.Founding as foundings
use Rattle.group_hosts.specs.contracts.hosts.GroupHost as hosts
use Rattle.group_model.specs.contracts.events.Inner as inners
use Rattle.group_model.specs.contracts.events.Out as outs
use Rattle.group_core.specs.contracts.cores.GroupCore as cores
use Rattle.shared_group.specs.contracts.books.Book as books
use Rattle.shared_group.specs.contracts.books.BookObject.TheImpl as objects
use Rattle.shared_group.specs.contracts.calls.Call as calls
use Rattle.shared_group.specs.contracts.calls.CallAnswer as told
use Rattle.shared_group.specs.contracts.groups.SharedGroup as groups
use Rattle.shared_group.specs.contracts.traces.TracedCore as traces

-- ---- the parts of a core

octets_send : IsSend octets.the_field.row
octets_send = search (sendable, crosses) depth 20

name_send : IsSend names.the_field.row
name_send = search (sendable, crosses) depth 20

key_send : IsSend keys.the_field.row
key_send = search (sendable, crosses, name_send) depth 20

request_send : IsSend requests.the_field.row
request_send = search (sendable, crosses, octets_send, name_send, key_send) depth 20

outcome_send : IsSend outcomes.the_field.row
outcome_send = search (sendable, crosses, octets_send, name_send) depth 20

view_send : IsSend views.the_field.row
view_send = search (sendable, crosses) depth 20

entry_send : IsSend entries.the_field.row
entry_send = search (sendable, crosses, request_send) depth 20

retained_send : IsSend retained.the_field.row
retained_send = search (sendable, crosses, request_send, outcome_send) depth 20

table_send : IsSend tables.the_field.row
table_send = search (sendable, crosses, retained_send) depth 20

log_send : (K : RattleType) (k : KeeperGhosts K.Denot) → IsSend K → IsSend (logs.the_field K k).row
log_send K k b = search (sendable, crosses, octets_send, request_send, view_send, entry_send, table_send) depth 20

replica_send : (S : RattleType) (s : ServantGhosts S.Denot) → IsSend S → IsSend (replicas.the_field S s).row
replica_send S s a = search (sendable, crosses) depth 20

holdback_send : IsSend holdbacks.the_field.row
holdback_send = search (sendable, crosses, maps, request_send) depth 20

founding_send : (S : RattleType) → IsSend S → IsSend (foundings.the_field S).row
founding_send S a = search (sendable, crosses) depth 20

host_send : (S : RattleType) (s : ServantGhosts S.Denot) → IsSend S → IsSend (hosts.the_field S s).row
host_send S s a = search (sendable, crosses, replica_send, holdback_send) depth 20

pub core_send : (S K : RattleType) (s : ServantGhosts S.Denot) (k : KeeperGhosts K.Denot) → IsSend S → IsSend K → IsSend (cores.the_field S K s k).row
core_send S K s k a b = search (sendable, crosses, log_send, founding_send, host_send) depth 20

-- ---- what references are made of

name_sync : IsSync names.the_field.row
name_sync = search (sendable, crosses) depth 20

ports_send : IsSend ports.the_field.row
ports_send = search (sendable, crosses) depth 20

ports_sync : IsSync ports.the_field.row
ports_sync = search (sendable, crosses) depth 20

-- ---- the object of the lock

inner_send : IsSend inners.the_field.row
inner_send = search (sendable, crosses, octets_send, request_send) depth 20

out_send : IsSend outs.the_field.row
out_send = search (sendable, crosses, inner_send) depth 20

module _ (S K : RattleType) (s : ServantGhosts S.Denot) (k : KeeperGhosts K.Denot) (a : IsSend S) (b : IsSend K) where
  traced_send : IsSend (traces.the_field S K s k).row
  traced_send = search (sendable, crosses, core_send) depth 20

  pub book_send : IsSend (books.the_row S K s k)
  book_send = search (sendable, crosses, traced_send, out_send) depth 20

  -- ---- the lock, and what is handed out with it

  pub pass_crosses : IsSend (passes.the_row (books.the_row S K s k) calls.the_row told.the_row (objects.ghosts S K s objects.no_dict k objects.no_dict objects.no_dict))
  pass_crosses = pass_send (books.the_row S K s k) calls.the_row told.the_row (objects.ghosts S K s objects.no_dict k objects.no_dict objects.no_dict) book_send

  pub note_crosses : IsSend (notes.the_row (books.the_row S K s k) calls.the_row told.the_row (objects.ghosts S K s objects.no_dict k objects.no_dict objects.no_dict))
  note_crosses = note_send (books.the_row S K s k) calls.the_row told.the_row (objects.ghosts S K s objects.no_dict k objects.no_dict objects.no_dict) book_send

  lock_shares : IsSync (locks.the_field (books.the_row S K s k) calls.the_row told.the_row (objects.ghosts S K s objects.no_dict k objects.no_dict objects.no_dict)).row
  lock_shares = lock_sync (books.the_row S K s k) calls.the_row told.the_row (objects.ghosts S K s objects.no_dict k objects.no_dict objects.no_dict) book_send

  lock_crosses : IsSend (locks.the_field (books.the_row S K s k) calls.the_row told.the_row (objects.ghosts S K s objects.no_dict k objects.no_dict objects.no_dict)).row
  lock_crosses = lock_send (books.the_row S K s k) calls.the_row told.the_row (objects.ghosts S K s objects.no_dict k objects.no_dict objects.no_dict) book_send

  pub group_sync : IsSync (groups.the_row S K s k)
  group_sync = search (sendable, crosses, lock_shares, name_sync, ports_sync) depth 20

  pub group_send : IsSend (groups.the_row S K s k)
  group_send = search (sendable, crosses, lock_crosses, name_send, ports_send) depth 20
