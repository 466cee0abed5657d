-- The script of so many rounds: its lines, each as its words, and its text.
use Rattle.std.specs.Prelude.{ℕ, zero, suc, ◌+◌, ◌*◌, ◌%◌, ◌^◌, ◌==◌, if◌then◌else◌, List, [], ◌∷◌, ◌++◌, codes, decimal}
use Rattle.made_scripts.specs.Lines.{client, text_of}

-- the number that is drawn after a number
abbrev pub next_drawn : ℕ → ℕ
next_drawn x = (1103515245 * x + 12345) % 2 ^ 31

-- the number that is drawn last, after so many draws from a seed
unfoldable pub drawn : ℕ → ℕ → ℕ
drawn seed zero = seed
drawn seed (suc draws) = next_drawn (drawn seed draws)

-- a message arrives
abbrev pub delivery : ℕ → List (List ℕ)
delivery message = codes "deliver" ∷ decimal message ∷ []

-- where a multiple of 5 is drawn, the request arrives once more
abbrev pub again : ℕ → ℕ → List (List (List ℕ))
again x request = if x % 5 == 0 then delivery request ∷ [] else []

-- a round's call with a number that was drawn, by one client after another
abbrev pub deposit : ℕ → ℕ → List (List ℕ)
deposit round x =
    codes "call" ∷ client (round % 4) ∷ codes "bank" ∷ codes "deposit" ∷ decimal (x % 1000) ∷ []

-- the call, after so many messages: its request arrives, and the first reply
unfoldable pub call_lines : ℕ → ℕ → ℕ → List (List (List ℕ))
call_lines round x sent = deposit round x ∷ delivery (sent + 1) ∷ (again x (sent + 1) ++ delivery (sent + 2) ∷ [])

-- the messages that it sends: the request, and a reply each time that this arrives
abbrev pub sent_by_call : ℕ → ℕ
sent_by_call x = if x % 5 == 0 then 3 else 2

-- how a state goes to the backups after so many rounds: whole after each thousand
abbrev pub transfer : ℕ → List ℕ
transfer rounds = if rounds % 1000 == 0 then codes "checkpoint" else codes "update"

-- after each hundred rounds it goes to both of them
unfoldable pub transfer_lines : ℕ → ℕ → List (List (List ℕ))
transfer_lines rounds sent =
    if rounds % 100 == 0
    then (transfer rounds ∷ codes "bank" ∷ []) ∷ delivery (sent + 1) ∷ delivery (sent + 2) ∷ (codes "tick" ∷ codes "1" ∷ []) ∷ []
    else []

-- one message for each of them
abbrev pub sent_by_transfer : ℕ → ℕ
sent_by_transfer rounds = if rounds % 100 == 0 then 2 else 0

-- a round by its number from 0, with the number that was drawn for it, after so many messages
abbrev pub round_lines : ℕ → ℕ → ℕ → List (List (List ℕ))
round_lines round x sent = call_lines round x sent ++ transfer_lines (round + 1) (sent + sent_by_call x)

-- all messages of a round
abbrev pub sent_by_round : ℕ → ℕ → ℕ
sent_by_round round x = sent_by_call x + sent_by_transfer (round + 1)

-- the messages of the first rounds
unfoldable pub sent_in : ℕ → ℕ → ℕ
sent_in seed zero = 0
sent_in seed (suc rounds) = sent_in seed rounds + sent_by_round rounds (drawn seed (suc rounds))

-- the lines of the first rounds
unfoldable pub rounds_lines : ℕ → ℕ → List (List (List ℕ))
rounds_lines seed zero = []
rounds_lines seed (suc rounds) = rounds_lines seed rounds ++ round_lines rounds (drawn seed (suc rounds)) (sent_in seed rounds)

-- three hosts, a warm group on them, and four clients
unfoldable pub opening : List (List (List ℕ))
opening =
    (codes "hosts" ∷ codes "3" ∷ [])
    ∷ (codes "group" ∷ codes "bank" ∷ codes "account" ∷ codes "warm" ∷ codes "0" ∷ codes "1" ∷ codes "2" ∷ [])
    ∷ (codes "client" ∷ codes "c0" ∷ []) ∷ (codes "client" ∷ codes "c1" ∷ [])
    ∷ (codes "client" ∷ codes "c2" ∷ []) ∷ (codes "client" ∷ codes "c3" ∷ []) ∷ []

-- the primary goes down and is reported, the other two hear of it, and a client asks the next one
unfoldable pub ending : ℕ → List (List (List ℕ))
ending sent =
    (codes "crash" ∷ codes "0" ∷ [])
    ∷ (codes "report" ∷ codes "bank" ∷ codes "0" ∷ []) ∷ delivery (sent + 2) ∷ delivery (sent + 3)
    ∷ (codes "client" ∷ codes "last" ∷ [])
    ∷ (codes "call" ∷ codes "last" ∷ codes "bank" ∷ codes "balance" ∷ []) ∷ delivery (sent + 4) ∷ delivery (sent + 5)
    ∷ (codes "show" ∷ codes "bank" ∷ []) ∷ []

-- the script of so many rounds, whose number is the seed
abbrev pub script_lines : ℕ → List (List (List ℕ))
script_lines number = opening ++ (rounds_lines number number ++ ending (sent_in number number))

-- its text
abbrev pub script_text : ℕ → List ℕ
script_text number = text_of (script_lines number)
