-- Hosts are started, one after another.
use Rattle.std.proofs.Common.{◌≡◌, ℕ, ◌+◌, ◌<◌, List, [], ◌∷◌, ◌++◌, length, map, refl, sym, ap, ◌∙◌, subst, arith, length-append}
use Rattle.std.specs.List.{AllByRecursion, range_with_len}
use Rattle.std.proofs.lemmas.List.FromFn.{map-range_with_len_more}
use mathlib.Core.List.{map-append, map-id}
use Rattle.hist_lock.specs.Passes.{IsOf, child_of, own_turns, parent_after}
use Rattle.shared_group.specs.Turns.{GroupPass, SharedValue}
use Rattle.live_hosts.specs.Posts.{HandsOut, IsPosted, Post, Rises}

-- ---- the hosts

all_posted : (group : SharedValue) (posts : List Post) (post : Post) → AllByRecursion (IsPosted group) posts → IsPosted group post → AllByRecursion (IsPosted group) (posts ++ post ∷ [])
all_posted group [] post all it = (it, tt)
all_posted group (p ∷ posts) post all it = (all.0, all_posted group posts post all.1 it)

abbrev pub host_of : Post → ℕ
host_of post = post.host

abbrev pub number_of : Post → ℕ
number_of post = post.pass.number

counted : (n : ℕ) → range_with_len 0 (n + 1) ≡ range_with_len 0 n ++ n ∷ []
counted n = sym (map-id (range_with_len 0 (n + 1))) ∙ map-range_with_len_more (λ (k : ℕ). k) 0 n n (omega arith) ∙ ap (λ (l : List ℕ). l ++ n ∷ []) (map-id (range_with_len 0 n))

-- the next host is the one at the next place
in_order : (posts posts' : List Post) (post : Post) (n : ℕ) → posts' ≡ posts ++ post ∷ [] → map host_of posts ≡ range_with_len 0 n → post.host ≡ n → map host_of posts' ≡ range_with_len 0 (n + 1)
in_order posts posts' post n more are is =
    ap (map host_of) more ∙ map-append host_of posts (post ∷ []) ∙ ap (λ (l : List ℕ). l ++ post.host ∷ []) are ∙ ap (λ (k : ℕ). range_with_len 0 n ++ k ∷ []) is ∙ sym (counted n)

-- ---- their numbers

-- they rise, and all are below a bound
unfoldable pub RisesBelow : ℕ → List ℕ → ℕ → Type 0
RisesBelow before [] bound = before < bound
RisesBelow before (n ∷ ns) bound = (before < n) × RisesBelow n ns bound

rise : (before : ℕ) (ns : List ℕ) (bound : ℕ) → RisesBelow before ns bound → Rises before ns
unfolding RisesBelow Rises
rise before [] bound are = tt
rise before (n ∷ ns) bound are = (are.0, rise n ns bound are.1)

nothing_rises : (before : ℕ) → Rises before []
unfolding Rises
nothing_rises before = tt

pub none_rise : (before : ℕ) (posts : List Post) → posts ≡ [] → Rises before (map number_of posts)
none_rise before posts none = subst (λ (l : List Post). Rises before (map number_of l)) (sym none) (nothing_rises before)

none_yet : (before bound : ℕ) → before < bound → RisesBelow before [] bound
unfolding RisesBelow
none_yet before bound less = less

rises_more : (before : ℕ) (ns : List ℕ) (bound next : ℕ) → RisesBelow before ns bound → bound < next → RisesBelow before (ns ++ bound ∷ []) next
unfolding RisesBelow
rises_more before [] bound next are less = (are, less)
rises_more before (n ∷ ns) bound next are less = (are.0, rises_more n ns bound next are.1 less)

none_numbered : (p : GroupPass) → 0 < p.stride → RisesBelow p.number [] (p.number + p.stride)
none_numbered p some = none_yet p.number (p.number + p.stride) (omega arith)

-- the next number is the greatest so far, and another one is next
one_numbered : (before : ℕ) (posts posts' : List Post) (post : Post) (p q : GroupPass) → posts' ≡ posts ++ post ∷ [] → post.pass ≡ child_of p → q ≡ parent_after p → 0 < p.stride
    → RisesBelow before (map number_of posts) (p.number + p.stride) → RisesBelow before (map number_of posts') (q.number + q.stride)
one_numbered before posts posts' post p q more child parent some are =
    let bound : ℕ = p.number + p.stride in
    let next : q.number + q.stride ≡ p.number + (p.stride + p.stride) = ap (λ (z : GroupPass). z.number + z.stride) parent in
    let less : bound < p.number + (p.stride + p.stride) = omega arith in
    let numbers : map number_of posts' ≡ map number_of posts ++ bound ∷ [] =
    ap (map number_of) more ∙ map-append number_of posts (post ∷ []) ∙ ap (λ (z : GroupPass). map number_of posts ++ z.number ∷ []) child in
    subst (λ (ns : List ℕ). RisesBelow before ns (q.number + q.stride)) (sym numbers)
    (subst (RisesBelow before (map number_of posts ++ bound ∷ [])) (sym next) (rises_more before (map number_of posts) bound (p.number + (p.stride + p.stride)) are less))

-- ---- the run's pass

hands_out_none : (p : GroupPass) → HandsOut p p
hands_out_none p = record { same = refl; strides = omega arith }

hands_out_one : (p q r : GroupPass) → HandsOut p q → r ≡ parent_after q → HandsOut p r
hands_out_one p q r out is = record {
  same = is ∙ ap (λ (z : GroupPass). record z { stride = q.stride + q.stride; parts = (parent_after q).parts }) out.same ∙ ap (λ (z : GroupPass). record p { stride = z.stride; parts = z.parts }) (sym is);
  strides = (let a = out.strides in let b : r.stride ≡ q.stride + q.stride = ap (λ (z : GroupPass). z.stride) is in omega arith);
}

-- ---- all of it

-- so many were started with passes that were split from this one, and this is left of it
pub record AreStarted (group : SharedValue) (first now : GroupPass) (posts : List Post) : Type 0 where
  pub main : HandsOut first now
  pub strides : 0 < now.stride
  pub hosts : map host_of posts ≡ range_with_len 0 (length posts)
  pub posted : AllByRecursion (IsPosted group) posts
  pub numbers : RisesBelow first.number (map number_of posts) (now.number + now.stride)

pub rises : {group : SharedValue} {main now : GroupPass} {posts : List Post} → AreStarted group main now posts → Rises main.number (map number_of posts)
rises {group} {main} {now} {posts} are = rise main.number (map number_of posts) (now.number + now.stride) are.numbers

pub none_started : (group : SharedValue) (main : GroupPass) (posts : List Post) → 0 < main.stride → posts ≡ [] → AreStarted group main main posts
none_started group main posts some none = subst (AreStarted group main main) (sym none) record {
  main = hands_out_none main;
  strides = some;
  hosts = refl;
  posted = tt;
  numbers = none_numbered main some;
}

pub one_started : (group : SharedValue) (main now later : GroupPass) (posts posts' : List Post) (post : Post) → AreStarted group main now posts → IsOf group.lock now
    → posts' ≡ posts ++ post ∷ [] → later ≡ parent_after now → (host : ℕ) → post ≡ record { host = host; group = group; pass = child_of now } → host ≡ length posts → own_turns post.pass ≡ []
    → AreStarted group main later posts'
one_started group main now later posts posts' post are own more parent host is place fresh =
    let serves : post.group ≡ group = ap (λ (p : Post). p.group) is in
    let child : post.pass ≡ child_of now = ap (λ (p : Post). p.pass) is in
    let long : length posts' ≡ length posts + 1 = ap length more ∙ length-append posts (post ∷ []) in
    let posted : IsPosted group post = record { serves = serves; own = subst (IsOf group.lock) (sym child) own; fresh = fresh } in
    record {
      main = hands_out_one main now later are.main parent;
      strides = (let a = are.strides in let b : later.stride ≡ now.stride + now.stride = ap (λ (z : GroupPass). z.stride) parent in omega arith);
      hosts = in_order posts posts' post (length posts) more are.hosts (ap (λ (p : Post). p.host) is ∙ place) ∙ ap (range_with_len 0) (sym long);
      posted = subst (AllByRecursion (IsPosted group)) (sym more) (all_posted group posts post are.posted posted);
      numbers = one_numbered main.number posts posts' post now later more child parent are.strides are.numbers;
    }
