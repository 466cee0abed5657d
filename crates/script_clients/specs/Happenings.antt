-- A client after what happened to it.
use Rattle.std.specs.Prelude.{ℕ, List}
use Rattle.std.specs.List.{fold}
use Rattle.script_clients.specs.Clients.{Client, new_client, taking, binding, starting, hearing, failing}
use Rattle.script_clients.specs.declared.happenings.Happening.{Happening}
use Rattle.script_clients.specs.declared.happenings.Happening.TheVariants.{Took, Bound, Began, Heard, Failed}

abbrev pub happened : Client → Happening → Client
happened c (Took group) = (taking c group).client
happened c (Bound reference) = binding c reference.value
happened c (Began reference expiration numbers versioned request) = (starting c reference.value expiration numbers versioned request.value).client
happened c (Heard id heard now) = (hearing c id heard.value now).client
happened c (Failed now) = (failing c now).client

-- a client with this name after all that happened to it, oldest first
abbrev pub client_after : List ℕ → List Happening → Client
client_after name past = fold happened (new_client name) past
