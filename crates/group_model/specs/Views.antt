-- What a view says of a host.
use Rattle.std.specs.Prelude.{◌≡◌, ℕ, ◌-◌, ◌<◌, ◌≤◌, ◌⊎◌, Bool, true, false, nat_eq, List, [], length, map, drop, None, slice_index_or, not}
use Rattle.std.specs.List.{filter}
use Rattle.ft_base.specs.declared.numbers.HostNo.{HostNo}
use Rattle.ft_base.specs.declared.numbers.Version.{Version}
use Rattle.ft_base.specs.declared.views.Style.{Style}
use Rattle.ft_base.specs.declared.views.Style.TheVariants.{Cold, Warm, Active}
use Rattle.ft_base.specs.declared.views.View.{View}
use Rattle.group_model.specs.declared.events.Inner.{Inner}
use Rattle.group_model.specs.declared.events.Out.{Out}
use Rattle.group_model.specs.Plain.{Common}

abbrev pub version : ℕ → Version
version n = record { 0 = n }

abbrev pub host_no : ℕ → HostNo
host_no n = record { 0 = n }

-- stands where there is no view
abbrev pub no_view : View
no_view = record { version = version 0; members = []; primary = None }

-- the view of a version
abbrev pub view_at : List View → ℕ → View
view_at views n = slice_index_or views (n - 1) no_view

-- the version of the newest view
abbrev pub newest : Common → ℕ
newest c = length c.views

abbrev pub newest_view : Common → View
newest_view c = view_at c.views (newest c)

abbrev pub is_warm : Style → Bool
is_warm Cold = false
is_warm Warm = true
is_warm Active = false

-- ---- views that a group still has: it has lost the earlier ones where its log was opened again

-- the newest view is among them
pub record AreKept (first_kept : ℕ) (views : List View) : Type 0 where
  pub some : 0 < first_kept
  pub last : first_kept ≤ length views

-- in order of version
abbrev pub kept_views : Common → List View
kept_views c = drop (c.first_kept - 1) c.views

-- the view of this version is one of them
abbrev pub StillHas : Common → ℕ → Type 0
StillHas c version = (c.first_kept ≤ version) × (version ≤ newest c)

-- a host knows no version, or that of one of them
abbrev pub MayKnow : Common → ℕ → Type 0
MayKnow c known = (known ≤ newest c) × ((known ≡ 0) ⊎ (c.first_kept ≤ known))

-- ---- members

-- the members but this one
abbrev pub without : ℕ → List ℕ → List ℕ
without host members = filter (λ m. not (nat_eq m host)) members

-- the same to each of these hosts, in order
abbrev pub sent_to : List ℕ → Inner → List Out
sent_to hosts carried = map (λ m. record { to = host_no m; carried = carried }) hosts

-- to each other member of the newest view, in order of joining
abbrev pub to_others : Common → ℕ → Inner → List Out
to_others c host carried = sent_to (without host (newest_view c).members) carried
