-- The lines of the script of so many rounds, as values, part by part as made_scripts has their words.
use Rattle.std.specs.Prelude.{ℕ, zero, suc, ◌+◌, ◌%◌, ◌==◌, if◌then◌else◌, List, [], ◌∷◌, ◌++◌, codes, decimal}
use Rattle.ft_base.specs.declared.decisions.Stop.TheVariants.{Never}
use Rattle.ft_base.specs.declared.views.Style.TheVariants.{Warm}
use Rattle.fault_script.specs.declared.lines.KindWord.TheVariants.{Account}
use Rattle.fault_script.specs.declared.lines.MemberChange.TheVariants.{Report}
use Rattle.fault_script.specs.declared.lines.Line.{Line}
use Rattle.fault_script.specs.declared.lines.Line.TheVariants as lines
use Rattle.made_scripts.specs.Lines.{client}
use Rattle.made_scripts.specs.Scripts.{drawn, sent_by_call, sent_in}

-- the name of the only group
abbrev pub bank : List ℕ
bank = codes "bank"

-- the client of a round
abbrev pub caller : ℕ → List ℕ
caller round = client (round % 4)

-- the client that calls last
abbrev pub last_caller : List ℕ
last_caller = codes "last"

-- a message arrives
abbrev pub arrival : ℕ → Line
arrival message = lines.Deliver message Never

-- where a multiple of 5 is drawn, the request arrives once more
abbrev pub arrival_again : ℕ → ℕ → List Line
arrival_again x request = if x % 5 == 0 then arrival request ∷ [] else []

-- a round's call with a number that was drawn
abbrev pub deposit_made : ℕ → ℕ → Line
deposit_made round x = lines.Call (caller round) bank (codes "deposit") (decimal (x % 1000) ∷ [])

-- the call, after so many messages: its request arrives, and the first reply
unfoldable pub call_made : ℕ → ℕ → ℕ → List Line
call_made round x sent =
    deposit_made round x ∷ arrival (sent + 1) ∷ (arrival_again x (sent + 1) ++ arrival (sent + 2) ∷ [])

-- how a state goes to the backups after so many rounds: whole after each thousand
abbrev pub transfer_made : ℕ → Line
transfer_made rounds = if rounds % 1000 == 0 then lines.Checkpoint bank else lines.Update bank

-- after each hundred rounds it goes to both of them
unfoldable pub transfers_made : ℕ → ℕ → List Line
transfers_made rounds sent =
    if rounds % 100 == 0
    then transfer_made rounds ∷ arrival (sent + 1) ∷ arrival (sent + 2) ∷ lines.Tick 1 ∷ []
    else []

-- a round by its number from 0, with the number that was drawn for it, after so many messages
abbrev pub round_made : ℕ → ℕ → ℕ → List Line
round_made round x sent = call_made round x sent ++ transfers_made (round + 1) (sent + sent_by_call x)

-- the first rounds
unfoldable pub rounds_made : ℕ → ℕ → List Line
rounds_made seed zero = []
rounds_made seed (suc rounds) = rounds_made seed rounds ++ round_made rounds (drawn seed (suc rounds)) (sent_in seed rounds)

-- three hosts, a warm group on them, and four clients
unfoldable pub opening_made : List Line
opening_made =
    lines.Hosts 3 ∷ lines.Group bank Account Warm (0 ∷ 1 ∷ 2 ∷ [])
    ∷ lines.Client (codes "c0") ∷ lines.Client (codes "c1") ∷ lines.Client (codes "c2") ∷ lines.Client (codes "c3") ∷ []

-- the primary goes down and is reported, the other two hear of it, and a client asks the next one
unfoldable pub ending_made : ℕ → List Line
ending_made sent =
    lines.Crash 0 ∷ lines.Change Report bank 0 ∷ arrival (sent + 2) ∷ arrival (sent + 3)
    ∷ lines.Client last_caller ∷ lines.Call last_caller bank (codes "balance") [] ∷ arrival (sent + 4) ∷ arrival (sent + 5)
    ∷ lines.Show bank ∷ []

-- the lines of the script of so many rounds, whose number is the seed
abbrev pub made_lines : ℕ → List Line
made_lines number = opening_made ++ (rounds_made number number ++ ending_made (sent_in number number))
