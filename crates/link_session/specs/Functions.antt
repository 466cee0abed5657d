-- A port that is a function of its owner's state, as a relation on states.
use Rattle.std.proofs.Common.{◌≡◌, ℕ, Bool, List, Option, sym, ap, ◌∙◌}
use Rattle.giop_messages.specs.declared.forms.Form.{Form}
use Rattle.giop_messages.specs.declared.messages.Message.{Message}
use Rattle.link_session.specs.declared.calls.Calling.{Calling}
use Rattle.link_session.specs.declared.calls.Calling.TheVariants.{Ask, Locate, Nothing}
use Rattle.link_session.specs.Calls.{calling_of}
use Rattle.link_session.specs.Exchanges.{Exchanging, Look, Request}
use Rattle.link_session.specs.Ports.{Port, Replying, called, locate_reply_of, reply_of, step, writes}
use Rattle.link_session.specs.Serving.{IsAnswered}

-- from one state to another a request is answered so, however the answer is written; or an object is found, or not
abbrev pub exchanges_of : {P : Type 0} → Port P → Exchanging P
exchanges_of {P} port old (Request host key asked answer) new = (reply : Replying) → ◌≡◌ {A = P} (port.ask old key asked reply) (writes port new (reply answer))
exchanges_of port old (Look host key here) new = (new ≡ old) × (here ≡ port.here old key)

-- then what is done is the port's step
called_so : {P : Type 0} (port : Port P) (host : ℕ) (form : Form) (c : Calling) (old new : P) (bytes : Option (List ℕ)) →
    IsAnswered (exchanges_of port) host form c old new bytes → writes port new bytes ≡ called port old form c
called_so port host form (Ask id flags key asked) old new bytes a =
    ap (λ (o : Option (List ℕ)). writes port new o) a.written ∙ sym (a.so (reply_of id flags form))
called_so port host form (Locate id key) old new bytes l =
    ap (λ (o : Option (List ℕ)). writes port new o) l.written
    ∙ ap (λ (b : Bool). port.write new (locate_reply_of id form b)) l.so.1
    ∙ ap (λ q. port.write q (locate_reply_of id form (port.here old key))) l.so.0
called_so port host form Nothing old new bytes n = ap (λ (o : Option (List ℕ)). writes port new o) n.1 ∙ n.0

pub is_step : {P : Type 0} (port : Port P) (host : ℕ) (message : Message) (form : Form) (old new : P) (bytes : Option (List ℕ)) →
    IsAnswered (exchanges_of port) host form (calling_of message) old new bytes → writes port new bytes ≡ step port old message form
is_step port host message form old new bytes is = called_so port host form (calling_of message) old new bytes is
