-- The opening of a made script.
use Rattle.std.proofs.Common.{◌≡◌, ℕ, false, List, [], ◌∷◌, ◌++◌, refl, sym, subst, codes, lit≤}
use Rattle.std.specs.Fmt.{digits}
use Rattle.fault_script.specs.declared.lines.Line.{Line}
use Rattle.fault_script.specs.declared.lines.Line.TheVariants as lines
use Rattle.fault_script.specs.declared.lines.KindWord.TheVariants as kind_words
use Rattle.ft_base.specs.declared.views.Style.TheVariants.{Warm}
use Rattle.group_model.specs.Runs.{after_steps}
use Rattle.made_lines.specs.Made.{bank, opening_made}
use Rattle.script_clients.specs.Clients.{Client, new_client}
use Rattle.script_groups.specs.Groups.{group_of, steps_of}
use Rattle.script_groups.specs.Histories.{with_all}
use Rattle.script_subscribers.specs.Subscribers.{nobody_listens}
use Rattle.script_world.specs.World.{World, empty, with_hosts}
use Rattle.world_management.specs.Making.{client_line, stopped_from}
use Rattle.world_turns.specs.Turns.{Turn, Goes, judged}
use Rattle.made_worlds.specs.Going.{AllGo, LeadsTo}
use Rattle.made_worlds.proofs.Callers.{Idler}
use Rattle.made_worlds.proofs.Happened.{opens}
use Rattle.made_worlds.proofs.Rounds.{Runs, four, three}
use Rattle.made_worlds.proofs.Worlds.{State, world}

abbrev new_idler : Idler
new_idler = record { started = 0; numbered = 0; last = 0; met = false }

-- the world behind it
abbrev pub opened : State
opened = record {
  clock = 0;
  hosts = three 0;
  past = [];
  clients = four (λ i. new_idler);
  messages = [];
  subscribers = nobody_listens;
  bytes = 0;
}

abbrev hosts_made : World
hosts_made = with_hosts empty 3

abbrev with_clients : List Client → World
with_clients cs = world (record opened { clients = cs })

hosts_go : (more : List Line) → AllGo hosts_made more → AllGo empty (lines.Hosts 3 ∷ more)
unfolding AllGo
hosts_go more all = all

group_goes : (more : List Line) → AllGo (with_clients []) more → AllGo hosts_made (lines.Group bank kind_words.Account Warm (0 ∷ 1 ∷ 2 ∷ []) ∷ more)
unfolding AllGo stopped_from group_of steps_of with_all after_steps
group_goes more all = all

client_goes : (cs : List Client) (name : List ℕ) (more : List Line) → client_line (with_clients cs) name ≡ Goes (with_clients (cs ++ new_client name ∷ [])) [] 0 →
    AllGo (with_clients (cs ++ new_client name ∷ [])) more → AllGo (with_clients cs) (lines.Client name ∷ more)
unfolding AllGo group_of steps_of with_all after_steps
client_goes cs name more goes all = subst (λ (t : Turn). LeadsTo (judged t) (λ next. AllGo next more)) (sym goes) all

pub opening_goes : (more : List Line) → AllGo (world opened) more → AllGo empty (opening_made ++ more)
unfolding opening_made digits
opening_goes more all =
    let c0 = new_client (codes "c0") in
    let c1 = new_client (codes "c1") in
    let c2 = new_client (codes "c2") in
    hosts_go _ (group_goes _ (client_goes [] (codes "c0") _ refl (client_goes (c0 ∷ []) (codes "c1") _ refl
    (client_goes (c0 ∷ c1 ∷ []) (codes "c2") _ refl (client_goes (c0 ∷ c1 ∷ c2 ∷ []) (codes "c3") more refl all)))))

-- so the rounds begin
pub opened_runs : Runs 0 0 opened
opened_runs = record {
  stands = record { messages = refl; bytes = lit≤ tt; subscribers = refl; hosts = refl; serves = opens };
  k = λ i. new_idler;
  clients = refl;
  early = λ i. lit≤ tt;
}
