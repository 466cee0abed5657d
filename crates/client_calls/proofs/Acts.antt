-- What a client does next can be done: the profile is there, and its host can be called.
use Rattle.std.proofs.Common.{◌≡◌, ℕ, ◌+◌, ◌==◌, ◌<◌, Bool, true, false, cond, eqb, List, ◌∷◌, length, Option, Some, None, Result, Ok, Err, refl, sym, ap, subst, arith}
use Rattle.std.specs.Prelude.{nat_lt, nat_le, unwrap_or, ◌||◌, ◌*◌}
use Rattle.std.specs.List.{list_all}
use Rattle.std.proofs.lemmas.Bool.{eqb-false}
use Rattle.std.proofs.lemmas.Nat.{mod_below}
use Rattle.ft_base.specs.declared.numbers.Tick.{Tick}
use Rattle.sys_faults.specs.declared.faults.SysFault.{SysFault}
use Rattle.sys_faults.specs.declared.reading.SysReadFault.{SysReadFault}
use Rattle.sys_faults.specs.Bodies.{fault_in}
use Rattle.iogr_reference.specs.declared.faults.RefFault.{RefFault}
use Rattle.iogr_reference.specs.declared.references.GroupRef.{GroupRef}
use Rattle.iogr_reference.specs.declared.references.Ior.{Ior}
use Rattle.iogr_reference.specs.Groups.{group_of}
use Rattle.giop_messages.specs.declared.messages.ReplyMsg.{ReplyMsg}
use Rattle.giop_messages.specs.declared.statuses.TheConstants.{LOCATION_FORWARD, LOCATION_FORWARD_PERM, NO_EXCEPTION, SYSTEM_EXCEPTION, USER_EXCEPTION}
use Rattle.client_retry.specs.declared.answers.Act.{Act}
use Rattle.client_retry.specs.declared.answers.End.{End}
use Rattle.client_retry.specs.declared.answers.End.TheVariants.{NoResponse, Transient, IdsSpent}
use Rattle.client_retry.specs.declared.answers.Heard.{Heard}
use Rattle.client_retry.specs.declared.answers.Heard.TheVariants as heards
use Rattle.client_retry.specs.declared.meanings.Meaning.{Meaning}
use Rattle.client_retry.specs.declared.meanings.Meaning.TheVariants.{Unheard, Fault, Newer, Final}
use Rattle.client_retry.specs.declared.limits.TheConstants.{LAST_ID, ROUNDS}
use Rattle.client_retry.specs.Attempts.{at_fault, at_first, target}
use Rattle.client_retry.specs.Meanings.{is_failure, said, said_late}
use Rattle.client_retry.specs.Invocations.{Invocation, News, Reply, Silence, adopted, by_meaning, faults_of, last_id_of, meaning_of, meanings_of, reference_of, sent, sent_over, with_news}
use Rattle.client_retry.specs.Clients.{Busy, Client, Idle, after, begun, hearing, last_of, starting}
use Rattle.client_retry.specs.Counters.{kept}
use Rattle.client_replies.specs.Heards.{fault_heard, forward_heard, forward_in, group_heard, heard_of, is_host, name_heard, user_in, value_heard, value_in}
use Rattle.client_talk.specs.declared.items.Item.{Item}
use Rattle.client_talk.specs.declared.items.Item.TheVariants as items
use Rattle.client_calls.specs.Aims.{Aim}
use Rattle.client_calls.specs.Calls.{news_of, says}
use Rattle.client_calls.specs.Requests.{CanAct, HasHosts}

-- ---- a redirect that is heard is to hosts that can be called

abbrev pub HostsIn : Heard → Type 0
HostsIn (heards.Outcome outcome) = Unit {0}
HostsIn (heards.System fault) = Unit {0}
HostsIn (heards.Forward group) = HasHosts group
HostsIn heards.Unreadable = Unit {0}

abbrev pub HostsTold : News → Type 0
HostsTold (Reply id heard now) = HostsIn heard
HostsTold (Silence now) = Unit {0}

value_in_hosts : (o : Option ℕ) → HostsIn (value_heard o)
value_in_hosts None = tt
value_in_hosts (Some n) = tt

name_in_hosts : (o : Option (List ℕ)) → HostsIn (name_heard o)
name_in_hosts None = tt
name_in_hosts (Some name) = tt

fault_in_hosts : (r : Result SysFault SysReadFault) → HostsIn (fault_heard r)
fault_in_hosts (Ok fault) = tt
fault_in_hosts (Err wrong) = tt

group_if : (b : Bool) (group : GroupRef) → list_all is_host group.profiles ≡ b → HostsIn (cond b (heards.Forward group) heards.Unreadable)
group_if true group e = e
group_if false group e = tt

group_in_hosts : (r : Result GroupRef RefFault) → HostsIn (group_heard r)
group_in_hosts (Ok group) = group_if (list_all is_host group.profiles) group refl
group_in_hosts (Err wrong) = tt

forward_in_hosts : (o : Option Ior) → HostsIn (forward_heard o)
forward_in_hosts None = tt
forward_in_hosts (Some reference) = group_in_hosts (group_of reference)

chosen_hosts : (a b c d e : Bool) (v w x y : Heard) → HostsIn v → HostsIn w → HostsIn x → HostsIn y → HostsIn (cond a v (cond b w (cond c x (cond d y (cond e y heards.Unreadable)))))
chosen_hosts true b c d e v w x y p q r s = p
chosen_hosts false true c d e v w x y p q r s = q
chosen_hosts false false true d e v w x y p q r s = r
chosen_hosts false false false true e v w x y p q r s = s
chosen_hosts false false false false true v w x y p q r s = s
chosen_hosts false false false false false v w x y p q r s = tt

heard_in_hosts : (m : ReplyMsg) → HostsIn (heard_of m)
heard_in_hosts m =
    chosen_hosts (m.status == NO_EXCEPTION) (m.status == USER_EXCEPTION) (m.status == SYSTEM_EXCEPTION) (m.status == LOCATION_FORWARD) (m.status == LOCATION_FORWARD_PERM)
    (value_heard (value_in m.body)) (name_heard (user_in m.body)) (fault_heard (fault_in m.body)) (forward_heard (forward_in m.body))
    (value_in_hosts (value_in m.body)) (name_in_hosts (user_in m.body)) (fault_in_hosts (fault_in m.body)) (forward_in_hosts (forward_in m.body))

pub told_hosts : (item : Item) → HostsTold (news_of (says item))
told_hosts (items.Reply m) = heard_in_hosts m
told_hosts items.Dial = tt
told_hosts items.Failed = tt
told_hosts items.Ended = tt

-- ---- where an attempt goes

tried : (b : Bool) (end : End) (r : Result ℕ End) (place : ℕ) → cond b (Err end) r ≡ Ok place → (b ≡ false) × (r ≡ Ok place)
tried true end r place e = absurd cc
tried false end r place e = (refl, e)

within : (reference : GroupRef) (faults place : ℕ) → 0 < length reference.profiles → (r : Result ℕ End) → r ≡ Ok (target reference faults) → r ≡ Ok place
    → place < length reference.profiles
within reference faults place some r is e =
    let same : target reference faults ≡ place = cc in
    omega (arith, mod_below (unwrap_or reference.primary 0 + faults) (length reference.profiles) some, same)

first_there : (reference : GroupRef) (last place : ℕ) → at_first reference last ≡ Ok place → place < length reference.profiles
first_there reference last place e =
    let some = tried (eqb (length reference.profiles) 0) (Transient 0 0) _ place e in
    let ids = tried (eqb last LAST_ID) IdsSpent _ place some.1 in
    let apart : length reference.profiles ≡ 0 → ⊥ = eqb-false (length reference.profiles) 0 some.0 in
    let go : (n : ℕ) → (n ≡ 0 → ⊥) → 0 < n = λ n h. omega (arith, h) in
    within reference 0 place (go (length reference.profiles) apart) (Ok (target reference 0)) refl ids.1

fault_there : (reference : GroupRef) (faults last : ℕ) (expiration now : Tick) (place : ℕ) → 0 < length reference.profiles
    → at_fault reference faults last expiration now ≡ Ok place → place < length reference.profiles
fault_there reference faults last expiration now place filled e =
    let time = tried (nat_le expiration.0 now.0) (NoResponse expiration now) _ place e in
    let rounds = tried (eqb faults (ROUNDS * length reference.profiles)) (Transient faults (length reference.profiles)) _ place time.1 in
    let ids = tried (eqb last LAST_ID) IdsSpent _ place rounds.1 in
    within reference faults place filled (Ok (target reference faults)) refl ids.1

-- ---- a client whose references can be used

abbrev pub Fits : Client → Type 0
Fits (Idle last None) = Unit {0}
Fits (Idle last (Some reference)) = HasHosts reference
Fits (Busy i) = (0 < length (reference_of i).profiles) × HasHosts (reference_of i)

abbrev pub Goes : Client → Act → Option Aim → Type 0
Goes client act last = Fits client × CanAct (kept client) act last

filled_by : (place n : ℕ) → place < n → 0 < n
filled_by place n h = omega (arith, h)

begins_by : (last : ℕ) (reference : GroupRef) (expiration : Tick) (attempt : Result ℕ End) → HasHosts reference
    → ((place : ℕ) → attempt ≡ Ok place → place < length reference.profiles)
    → Goes (after (begun last reference expiration) last (sent last attempt)) (sent last attempt) None
begins_by last reference expiration (Ok place) hosts there =
    ((filled_by place (length reference.profiles) (there place refl), hosts), (there place refl, hosts))
begins_by last reference expiration (Err end) hosts there = (hosts, record { reference = reference; held = refl; hosts = hosts; idle = refl })

pub begins : (client : Client) (reference : GroupRef) (expiration : Tick) → HasHosts reference
    → Goes (starting client reference expiration).client (starting client reference expiration).act None
begins client reference expiration hosts =
    begins_by (last_of client) reference expiration (at_first reference (last_of client)) hosts (first_there reference (last_of client))

-- over the reference that it goes by then
goes_by : (i : Invocation) (last : ℕ) (attempt : Result ℕ End) (aim : Aim) → HasHosts (reference_of i)
    → ((place : ℕ) → attempt ≡ Ok place → place < length (reference_of i).profiles) → Goes (after i last (sent last attempt)) (sent last attempt) (Some aim)
goes_by i last (Ok place) aim hosts there = ((filled_by place (length (reference_of i).profiles) (there place refl), hosts), (there place refl, hosts))
goes_by i last (Err end) aim hosts there = (hosts, record { reference = reference_of i; held = refl; hosts = hosts; idle = refl })

goes_over : (i : Invocation) (other : GroupRef) (last : ℕ) (attempt : Result ℕ End) (aim : Aim) → HasHosts (reference_of i)
    → ((place : ℕ) → attempt ≡ Ok place → place < length (reference_of i).profiles)
    → Goes (after i last (sent_over other last attempt)) (sent_over other last attempt) (Some aim)
goes_over i other last (Ok place) aim hosts there = ((filled_by place (length (reference_of i).profiles) (there place refl), hosts), (there place refl, hosts))
goes_over i other last (Err end) aim hosts there = (hosts, record { reference = reference_of i; held = refl; hosts = hosts; idle = refl })

-- ---- a newer reference was told in a redirect

late : (m : Meaning) (other : GroupRef) → said_late m ≡ Newer other → m ≡ Newer other
late Unheard other e = e
late (Fault now) other e = absurd cc
late (Newer reference) other e = e
late (Final end) other e = e

newer_among : (b d : Bool) (m : Meaning) (other : GroupRef) → cond b Unheard (cond d (said_late m) m) ≡ Newer other → m ≡ Newer other
newer_among true d m other e = absurd cc
newer_among false true m other e = late m other e
newer_among false false m other e = e

same_newer : (one other : GroupRef) → Newer one ≡ Newer other → one ≡ other
same_newer one other e = cc

by_failure : (b : Bool) (now : Tick) (end : End) (other : GroupRef) → cond b (Fault now) (Final end) ≡ Newer other → HasHosts other
by_failure true now end other e = absurd cc
by_failure false now end other e = absurd cc

by_version : (b : Bool) (now : Tick) (group other : GroupRef) → HasHosts group → cond b (Newer group) (Fault now) ≡ Newer other → HasHosts other
by_version true now group other hosts e = subst HasHosts (same_newer group other e) hosts
by_version false now group other hosts e = absurd cc

said_hosts : (reference : GroupRef) (now : Tick) (heard : Heard) (other : GroupRef) → HostsIn heard → said reference now heard ≡ Newer other → HasHosts other
said_hosts reference now (heards.Outcome outcome) other hosts e = absurd cc
said_hosts reference now (heards.System fault) other hosts e = by_failure (is_failure fault.kind) now _ other e
said_hosts reference now (heards.Forward group) other hosts e = by_version (nat_lt reference.version.0 group.version.0) now group other hosts e
said_hosts reference now heards.Unreadable other hosts e = absurd cc

newer_hosts : (i : Invocation) (news : News) (other : GroupRef) → HostsTold news → meaning_of i news ≡ Newer other → HasHosts other
newer_hosts i (Reply id heard now) other hosts e =
    said_hosts (reference_of i) now heard other hosts
    (newer_among (nat_lt id i.first || nat_lt (last_id_of i) id) (nat_lt id (last_id_of i)) (said (reference_of i) now heard) other e)
newer_hosts i (Silence now) other hosts e = absurd cc

-- ---- a client that hears news

abbrev acts_on : Invocation → Meaning → Act
acts_on i m = by_meaning (reference_of i) (faults_of i) (last_id_of i) i.expiration m

abbrev goes_on_over : Invocation → Meaning → GroupRef
goes_on_over i m = adopted i.reference (m ∷ meanings_of i)

hears_so : (i : Invocation) (news : News) (aim : Aim) (m : Meaning) → meaning_of i news ≡ m → 0 < length (reference_of i).profiles → HasHosts (reference_of i) → HostsTold news
    → Goes (after (with_news i news) (last_id_of i) (acts_on i m)) (acts_on i m) (Some aim)
hears_so i news aim Unheard e some hosts told =
    let same : reference_of (with_news i news) ≡ reference_of i = ap (λ (m : Meaning). goes_on_over i m) e in
    ((subst (λ (r : GroupRef). 0 < length r.profiles) (sym same) some, subst HasHosts (sym same) hosts), tt)
hears_so i news aim (Fault now) e some hosts told =
    let same : reference_of (with_news i news) ≡ reference_of i = ap (λ (m : Meaning). goes_on_over i m) e in
    goes_by (with_news i news) (last_id_of i) (at_fault (reference_of i) (faults_of i + 1) (last_id_of i) i.expiration now) aim (subst HasHosts (sym same) hosts)
    (λ place is. subst (λ (r : GroupRef). place < length r.profiles) (sym same) (fault_there (reference_of i) (faults_of i + 1) (last_id_of i) i.expiration now place some is))
hears_so i news aim (Newer other) e some hosts told =
    let same : reference_of (with_news i news) ≡ other = ap (λ (m : Meaning). goes_on_over i m) e in
    goes_over (with_news i news) other (last_id_of i) (at_first other (last_id_of i)) aim (subst HasHosts (sym same) (newer_hosts i news other told e))
    (λ place is. subst (λ (r : GroupRef). place < length r.profiles) (sym same) (first_there other (last_id_of i) place is))
hears_so i news aim (Final end) e some hosts told =
    let same : reference_of (with_news i news) ≡ reference_of i = ap (λ (m : Meaning). goes_on_over i m) e in
    (subst HasHosts (sym same) hosts, record { reference = reference_of (with_news i news); held = refl; hosts = subst HasHosts (sym same) hosts; idle = refl })

pub hears : (client : Client) (news : News) (aim : Aim) → Fits client → HostsTold news → Goes (hearing client news).client (hearing client news).act (Some aim)
hears (Idle last None) news aim fits told = (tt, tt)
hears (Idle last (Some reference)) news aim fits told = (fits, tt)
hears (Busy i) news aim fits told = hears_so i news aim (meaning_of i news) refl fits.0 fits.1 told
