-- What a list writes and reports, from what its walk does.
use Rattle.std.proofs.Common.{◌≡◌, ◌∙◌, ◌+◌, ℕ, List, Option, map, ap, subst}
use Rattle.std.specs.Io.KnownBytes.{Appends}
use Rattle.std.specs.List.{flat_map}
use Rattle.ignore_base.specs.Problem.{Problem}
use Rattle.ignore_walk.specs.Entry.{Item}
use Rattle.commands.proofs.LineLemmas.{appends_on}
use Rattle.ig_options.specs.declared.options.Options.{Options}
use Rattle.ig_commands.specs.Counts.{capped, counted, stats_line, status_of}
use Rattle.ig_commands.specs.Listing.{Lists, Writes, all_reported, all_reports, found_in, reported_in}
use Rattle.ig_commands.specs.Reports.{is_known, report_of, whole_reports}

-- a walk's items, after the problems of the files that are named, and then the counts
pub whole_list : (o : Options) (problems : List (Option Problem)) (items : List Item) (first reported found total status : ℕ)
    (out : List ℕ → Type 0) (x y z v : Option (List ℕ)) → first ≡ counted 0 (map is_known problems) → Appends x y (flat_map report_of problems)
    → Writes o items (whole_reports o items) reported found out (Appends y z) → total ≡ capped (reported + first)
    → Appends z v (stats_line o.stats total found) → status ≡ status_of total found → Lists o problems items status out (Appends x v)
whole_list o problems items first reported found total status out x y z v is before w sum stats ends =
    let all : total ≡ all_reported o problems items =
    sum ∙ (ap (λ n. capped (n + first)) w.wrong ∙ ap (λ n. capped (reported_in o items + n)) is) in
    let line : stats_line o.stats total found ≡ stats_line o.stats (all_reported o problems items) (found_in o items) =
    ap (λ n. stats_line o.stats n found) all ∙ ap (stats_line o.stats (all_reported o problems items)) w.listed in
    record {
      lists = w.lists;
      reports = appends_on x z v (all_reports o problems items) (stats_line o.stats (all_reported o problems items) (found_in o items))
          (appends_on x y z (flat_map report_of problems) (whole_reports o items) before w.reports)
          (subst (Appends z v) line stats);
      ends = ends ∙ (ap (λ n. status_of n found) all ∙ ap (status_of (all_reported o problems items)) w.listed);
      enough = w.enough;
    }
