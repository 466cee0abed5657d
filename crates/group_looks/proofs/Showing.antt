-- The lines of a group's figures are those by which it is shown.
use Rattle.std.proofs.Common.{◌≡◌, ℕ, ◌==◌, ◌||◌, ◌&&◌, not, Bool, true, false, cond, List, [], ◌∷◌, ◌++◌, Some, None, refl, ap, sym, ◌∙◌, arith}
use Rattle.std.specs.Prelude.{map}
use Rattle.std.specs.List.{AllByRecursion, filter, range_with_len}
use Rattle.std.proofs.lemmas.Bool.Decides.{nat_tests}
use Rattle.ft_base.specs.Machine.{Machine}
use Rattle.ft_base.specs.Members.{is_member}
use Rattle.ft_base.specs.declared.limits.TheConstants.{HOST_LIMIT}
use Rattle.ft_base.specs.declared.views.Style.{Style}
use Rattle.ft_base.specs.declared.views.View.{View}
use Rattle.ft_report.specs.declared.reports.ReportLine.{ReportLine}
use Rattle.ft_report.specs.declared.reports.ReportLine.TheVariants as reports
use Rattle.ft_report.specs.declared.reports.Role.TheVariants as roles
use Rattle.ft_report.specs.declared.reports.Standing.{Standing}
use Rattle.ft_report.specs.declared.reports.Standing.TheVariants as standings
use Rattle.group_model.specs.Plain.{Group, state_at}
use Rattle.group_model.specs.Views.{host_no, newest_view, version}
use Rattle.group_looks.specs.Looks.{AreFigures, figure_of, formers, is_former}
use Rattle.group_looks.specs.Showing.{figure_line, host_line, member_line, member_role, role_of, shown_of, standing_at, standing_by, standing_of}
use Rattle.group_looks.specs.declared.figures.Figures.{Figures}
use Rattle.group_looks.proofs.Looking.{map_append}

-- ---- each of a list is a member of it

or_true : (b : Bool) → (b || true) ≡ true
or_true true = refl
or_true false = refl

abbrev AreAmong : List ℕ → List ℕ → Type 0
AreAmong members hosts = AllByRecursion (λ host. is_member host members ≡ true) hosts

among_more : (first : ℕ) (members hosts : List ℕ) → AreAmong members hosts → AreAmong (first ∷ members) hosts
among_more first members [] all = tt
among_more first members (host ∷ hosts) all =
    (ap (λ (b : Bool). (first == host) || b) all.0 ∙ or_true (first == host), among_more first members hosts all.1)

all_among : (members : List ℕ) → AreAmong members members
all_among [] = tt
all_among (host ∷ hosts) =
    let same : (host == host) ≡ true = grind (arith, nat_tests) in
    (ap (λ (b : Bool). b || is_member host hosts) same, among_more host hosts hosts (all_among hosts))

-- ---- a host

module _ (m : Machine) (g : Group) where
  abbrev view : View
  view = newest_view g.common

  abbrev its_line : ℕ → ReportLine
  its_line host = figure_line g.common.style view (figure_of m g host)

  standing_is : (host : ℕ) → standing_by (figure_of m g host) ≡ standing_of m g.common (g.hosts host)
  standing_is host = ap (λ (s : Standing). cond (g.hosts host).up s standings.Down) (go (g.hosts host).place.loaded)
    where
      go : (b : Bool) → standing_at (version (g.hosts host).known) (cond b (Some ((g.hosts host).place.position, state_at m g.common (g.hosts host).place.position)) None)
          ≡ cond b (standings.At (version (g.hosts host).known) (g.hosts host).place.position (state_at m g.common (g.hosts host).place.position)) (standings.Blank (version (g.hosts host).known))
      go true = refl
      go false = refl

  line_is : (host : ℕ) (b : Bool) → is_member host view.members ≡ b → its_line host ≡ host_line m g (cond b (member_role g.common.style view host) roles.Former) host
  line_is host b is =
      let role : role_of g.common.style view host ≡ cond b (member_role g.common.style view host) roles.Former = ap (λ (x : Bool). cond x (member_role g.common.style view host) roles.Former) is in
      λ i. reports.Member (host_no host) (role i) (standing_is host i)

  -- ---- the members, and those that were members

  members_lines : (hosts : List ℕ) → AreAmong view.members hosts → map (figure_line g.common.style view) (map (figure_of m g) hosts) ≡ map (member_line m g) hosts
  members_lines [] all = refl
  members_lines (host ∷ hosts) all = λ i. line_is host true all.0 i ∷ members_lines hosts all.1 i

  outside : (host : ℕ) → is_former g host ≡ true → is_member host view.members ≡ false
  outside host is = go (is_member host view.members) is
    where
      go : (b : Bool) → (not b && (g.hosts host).place.loaded) ≡ true → b ≡ false
      go true is = absurd cc
      go false is = refl

  former_lines : (hosts : List ℕ) → map (figure_line g.common.style view) (map (figure_of m g) (filter (is_former g) hosts)) ≡ map (host_line m g roles.Former) (filter (is_former g) hosts)
  former_lines [] = refl
  former_lines (host ∷ hosts) = go (is_former g host) refl (former_lines hosts)
    where
      go : (b : Bool) → is_former g host ≡ b → map (figure_line g.common.style view) (map (figure_of m g) (filter (is_former g) hosts)) ≡ map (host_line m g roles.Former) (filter (is_former g) hosts)
          → map (figure_line g.common.style view) (map (figure_of m g) (cond b (host ∷ (filter (is_former g) hosts)) (filter (is_former g) hosts))) ≡ map (host_line m g roles.Former) (cond b (host ∷ (filter (is_former g) hosts)) (filter (is_former g) hosts))
      go true is others = λ i. line_is host false (outside host is) i ∷ others i
      go false is others = others

  all_formers : map (figure_line g.common.style view) (map (figure_of m g) (formers g)) ≡ map (host_line m g roles.Former) (formers g)
  unfolding formers
  all_formers = former_lines (range_with_len 0 HOST_LIMIT)

  -- ---- the group

  pub shown_is : (name : List ℕ) (style : Style) (figures : Figures) → g.common.style ≡ style → AreFigures m g figures
      → reports.Show name figures.view.version figures.entries figures.mark figures.time ∷ map (figure_line style figures.view) figures.hosts.items ≡ shown_of name m g
  shown_is name style figures same are =
      let lines : map (figure_line style figures.view) figures.hosts.items ≡ map (member_line m g) view.members ++ map (host_line m g roles.Former) (formers g)
      = (λ i. map (figure_line (sym same i) (are.view i)) (are.hosts i))
      ∙ map_append (figure_line g.common.style view) (map (figure_of m g) view.members) (map (figure_of m g) (formers g))
      ∙ (λ i. members_lines view.members (all_among view.members) i ++ all_formers i) in
      λ i. reports.Show name ((are.view i).version) (are.entries i) (are.mark i) (record { 0 = are.time i }) ∷ lines i
