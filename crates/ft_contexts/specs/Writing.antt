-- The contexts that are written: big endian, with padding of zeros, the version before the key.
use Rattle.std.specs.Prelude.{ℕ, List, [], ◌∷◌, ◌++◌, Option, Some, None}
use Rattle.ft_base.specs.Text.{IsName}
use Rattle.ft_base.specs.declared.numbers.Version.{Version}
use Rattle.ft_base.specs.declared.requests.Key.{Key}
use Rattle.cdr_codec.specs.declared.orders.Order.TheVariants.{Big}
use Rattle.cdr_codec.specs.declared.faults.CdrWhy.{CdrWhy}
use Rattle.cdr_codec.specs.Formats.{Format}
use Rattle.cdr_codec.specs.Encapsulations.{encapsulated}
use Rattle.ft_contexts.specs.declared.lists.TheConstants.{FT_GROUP_VERSION, FT_REQUEST}
use Rattle.ft_contexts.specs.declared.lists.Context.{Context}
use Rattle.ft_contexts.specs.declared.lists.FtContexts.{FtContexts}
use Rattle.ft_contexts.specs.Contents.{group_version, request}

-- the context with this id, if there is a value
abbrev pub context_of : {X : Type 0} → Format CdrWhy X → ℕ → Option X → List Context
context_of f id None = []
context_of f id (Some x) = record { id = id; content = encapsulated Big f x } ∷ []

abbrev pub written_contexts : Option Version → Option Key → List Context
written_contexts version key = context_of group_version FT_GROUP_VERSION version ++ context_of request FT_REQUEST key

abbrev pub told : Option Version → Option Key → FtContexts
told version key = record { version = version; key = key }

-- a key whose client's id is a name, and whose numbers fit
pub record IsWritable (key : Key) : Type 0 where
  pub name : IsName key.client
  pub valid : request.Valid key
