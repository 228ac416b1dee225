use Rattle.std.proofs.Common.{◌≡◌, ◌≤◌, ◌∙◌, ◌∷◌, [], ℕ, List, Some, None, Err, length, not, eqb, ap, sym, subst}
use Rattle.gtid_sets.specs.declared.reading.SetFault.TheVariants.{BadUuid}
use Rattle.gtid_sets.specs.Reading.{Claim, server_of, onto, all_or_first, Gives}
use Rattle.gtid_sets.proofs.ReadingLemmas.{prefix_within, named_none, named_some}
use Rattle.gtid_sets.proofs.reading.read_named.Goals as goal

pub text_before-requires : goal.text_before-requires
text_before-requires c = subst (λ (n : ℕ). n ≤ length c.args.part.now) (sym c.length_before_colon-end.ensures) (prefix_within (λ b. not (eqb b 58)) c.args.part.now)

pub returns-in-Some : goal.returns-in-Some
returns-in-Some c =
    let within : c.length_before_colon-end.result ≤ length c.args.part.now = subst (λ (n : ℕ). n ≤ length c.args.part.now) (sym c.length_before_colon-end.ensures) (prefix_within (λ b. not (eqb b 58)) c.args.part.now) in
    let some : server_of c.text_before.result.now ≡ Some c.in-Some.server = sym c.read_server.ensures ∙ c.in-Some.is in
    let says = named_some c.args.start c.args.at c.length_before_colon-end.result c.args.part.now c.in-Some.server c.length_before_colon-end.ensures within (ap server_of (sym c.text_before.ensures) ∙ some) in
    subst (λ r. Gives c.read_behind_uuid.result c.read_behind_uuid.new.intervals.items r) (ap (λ cs. onto c.args.intervals.now.items (all_or_first cs)) (sym says)) c.read_behind_uuid.ensures

pub returns-in-None : goal.returns-in-None
returns-in-None c =
    let within : c.length_before_colon-end.result ≤ length c.args.part.now = subst (λ (n : ℕ). n ≤ length c.args.part.now) (sym c.length_before_colon-end.ensures) (prefix_within (λ b. not (eqb b 58)) c.args.part.now) in
    let none : server_of c.text_before.result.now ≡ None = sym c.read_server.ensures ∙ c.in-None.is in
    let says = named_none c.args.start c.args.at c.length_before_colon-end.result c.args.part.now c.length_before_colon-end.ensures within (ap server_of (sym c.text_before.ensures) ∙ none) in
    ap (λ cs. onto c.args.intervals.now.items (all_or_first cs)) says
    ∙ ap (λ (place : ℕ). let cs : List Claim = Err (BadUuid place) ∷ [] in onto c.args.intervals.now.items (all_or_first cs)) (sym c.place_of_uuid.ensures)
