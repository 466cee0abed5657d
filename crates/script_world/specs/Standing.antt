-- How a world's code stands for the world.
use Rattle.script_world.specs.World.{World}
use Rattle.script_world.specs.declared.worlds.World.TheInside.{Inside}

abbrev pub world_of : Inside → World
world_of a = record {
  clock = a.clock;
  hosts = a.hosts.items;
  groups = a.groups.items;
  clients = a.clients;
  messages = a.messages.items;
  settings = a.settings;
  watch = a.monitor;
  subscribers = a.subscribers;
  bytes = a.bytes;
}
