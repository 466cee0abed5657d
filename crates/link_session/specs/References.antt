-- References that a reply can carry.
use Rattle.std.specs.Prelude.{◌≡◌, ℕ, ◌≤◌, List, length, None}
use Rattle.ft_base.specs.Text.{zero_place}
use Rattle.ft_base.specs.declared.numbers.GroupId.{GroupId}
use Rattle.ft_base.specs.declared.text.TheConstants.{NAME_LIMIT}
use Rattle.ft_base.specs.declared.views.View.{View}
use Rattle.ft_base.specs.declared.views.TheConstants.{MEMBER_LIMIT}
use Rattle.cdr_codec.specs.declared.orders.Order.{Order}
use Rattle.iogr_reference.specs.Views.{reference_of}
use Rattle.host_server.specs.Replies.{IsForward}

-- the reference of a view can be written in either byte order, and is short enough for a reply
abbrev pub ViewReferencesCanBeSent : Type 0
ViewReferencesCanBeSent = (group : GroupId) (type_id : List ℕ) (view : View) (ports : List ℕ) (order : Order)
    → zero_place type_id ≡ None → length type_id ≤ NAME_LIMIT → length view.members ≤ MEMBER_LIMIT
    → IsForward order (reference_of group type_id view ports)
