-- What a group's run was, once its lock is closed.
use Rattle.std.proofs.Common.{◌≡◌, ◌≢◌, ◌∙◌, ℕ, ◌<◌, true, List, [], ◌∷◌, ◌++◌, map, Option, subst, arith}
use Rattle.std.specs.Prelude.{◌↔◌}
use Rattle.std.specs.List.{AllByRecursion}
use Rattle.hist_lock.specs.Histories.{Among, turns_by}
use Rattle.message_log.specs.Picture.{length_of}
use Rattle.group_core.specs.Cores.{CorePicture, Stands}
use Rattle.shared_group.specs.Turns.{GroupPass, SharedValue}
use Rattle.live_words.specs.declared.asking.LiveWords.{LiveWords}
use Rattle.live_hosts.specs.Laws.{StaysEndedInTheWhole}
use Rattle.live_hosts.specs.Posts.{HasEnded, HasTurnsOf, Post, Rises}
use Rattle.live_monitor.specs.declared.states.Kill.{Kill}
use Rattle.live_monitor.specs.Monitored.{Errand, GroupTurn, IsEnough, IsMonitored}
use Rattle.live_group.specs.Closing.{IsClosed}
use Rattle.live_run.specs.Runs.{IsGroupRun, account, opening_account}
use Rattle.live_run.specs.Serving.{HasWatched, HaveServed, IsOpen}

-- ---- the numbers of the hosts' passes

abbrev pub AreAbove : ℕ → List ℕ → Type 0
AreAbove low ns = AllByRecursion (λ n. low < n) ns

above_less : (low high : ℕ) (ns : List ℕ) → low < high → AreAbove high ns → AreAbove low ns
above_less low high [] less above = tt
above_less low high (n ∷ ns) less above = (let over = above.0 in omega arith, above_less low high ns less above.1)

rise_above : (low : ℕ) (ns : List ℕ) → Rises low ns → AreAbove low ns
unfolding Rises
rise_above low [] rise = tt
rise_above low (n ∷ ns) rise = (rise.0, above_less low n ns rise.0 (rise_above n ns rise.1))

abbrev pub number_of : Post → ℕ
number_of post = post.pass.number

-- each host's turns are those of the whole history
whole_turns : StaysEndedInTheWhole → (posts : List Post) (main : GroupPass) (history rest : List GroupTurn) → history ≡ main.seen ++ rest
    → ((x : ℕ) → Among x main.joined → x ≢ main.number → turns_by x rest ≡ []) → main.number ≡ 0 → AreAbove 0 (map number_of posts)
    → AllByRecursion (λ post. HasEnded post main) posts → AllByRecursion (λ post. HasTurnsOf post history) posts
whole_turns law [] main history rest same none zero above ended = tt
whole_turns law (post ∷ posts) main history rest same none zero above ended =
    let over = above.0 in
    let other : post.pass.number ≢ main.number = λ is. omega (arith, over, zero, is) in (
      law post main history rest same (none post.pass.number ended.0.joined other) ended.0,
      whole_turns law posts main history rest same none zero above.1 ended.1,
    )

-- ---- the group

pub group_run : StaysEndedInTheWhole → (live : LiveWords) (group : SharedValue) (first main : GroupPass) (errand : Errand) (core : CorePicture) → IsOpen live group first
    → HaveServed live.hosts main → HasWatched live errand group main → IsClosed account group.lock main errand.kill core → IsGroupRun live core
group_run law live group first main errand core opened served watched closed =
    let at = closed.leads.at (opening_account live) opened.stands in
    record {
      history = closed.history;
      last = at.now.group;
      queue = at.now.queue;
      legal = at.legal;
      stands = subst (λ (c : CorePicture). Stands account c at.now.group) closed.core_is at.stands;
      calm = (closed.leads.faults.calm opened.calm).1;
      hosts = record {
        posts = served.posts;
        hosts = served.hosts;
        numbers = served.numbers;
        turns = whole_turns law served.posts main closed.history closed.rest closed.seen closed.joined watched.number (rise_above 0 (map number_of served.posts) served.numbers) served.ended;
      };
      monitor = record {
        errand = closed.errand;
        is = closed.kill_is ∙ watched.kill;
        monitored = subst (λ (n : ℕ). IsMonitored closed.errand (turns_by n closed.history)) watched.number closed.monitored;
        exact = subst (λ (k : Option Kill). (closed.errand.killed ≡ true) ↔ IsEnough k (length_of core.log)) watched.kill closed.exact;
      };
    }
