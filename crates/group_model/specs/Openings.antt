-- A group at its opening: one view, no entries. (Chapter 23, `create_object`.)
use Rattle.std.specs.Prelude.{ℕ, Bool, true, false, if◌then◌else◌, List, [], ◌∷◌, None}
use Rattle.ft_base.specs.Members.{is_member}
use Rattle.ft_base.specs.declared.views.Style.{Style}
use Rattle.ft_base.specs.declared.views.Style.TheVariants.{Cold, Warm, Active}
use Rattle.ft_base.specs.declared.views.View.{View}
use Rattle.group_model.specs.Plain.{Common, Host, Group, blank, loaded_at, nowhere}
use Rattle.ft_base.specs.Views.{is_led_by, is_passive}
use Rattle.group_model.specs.Views.{version}
use Rattle.ft_base.specs.Members.{first_of}

-- the primary of a passive group's first view is its first member
abbrev pub first_view : Style → List ℕ → View
first_view style members = record {
  version = version 1;
  members = members;
  primary = if is_passive style then first_of members else None;
}

-- the members that have a servant from the start: in a cold group the primary alone
abbrev pub opens_loaded : Style → View → ℕ → Bool
opens_loaded Cold view host = is_led_by view host
opens_loaded Warm view host = is_member host view.members
opens_loaded Active view host = is_member host view.members

-- members know the first view, and others know nothing; all are up
abbrev pub opening_host : Style → View → ℕ → Host
opening_host style view host =
    if is_member host view.members
    then record { up = true; known = 1; place = if opens_loaded style view host then loaded_at 0 else nowhere; holdback = [] }
    else blank true

abbrev pub opening_common : ℕ → Style → ℕ → List ℕ → List ℕ → Common
opening_common id style kind opening members = record {
  id = id;
  style = style;
  kind = kind;
  opening = opening;
  views = first_view style members ∷ [];
  first_kept = 1;
  journal = [];
  time = 0;
  mark = 0;
  taken = false;
  ran = 0;
}

abbrev pub opening_group : ℕ → Style → ℕ → List ℕ → List ℕ → Group
opening_group id style kind opening members = record {
  common = opening_common id style kind opening members;
  hosts = opening_host style (first_view style members);
}
