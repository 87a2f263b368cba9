use Rattle.std.proofs.Common.{◌≡◌, ◌⊎◌, inl, inr, ℕ, List, String, Global, map, drop, ap, sym, subst, ◌∙◌}
use Rattle.std.specs.Prelude.{Any, string_bytes}
use Rattle.std.proofs.lemmas.List.{drop-map}
use Rattle.program_io.specs.Words.{mode_of}
use Rattle.program_io.specs.declared.mode.Mode.{Mode}
use Rattle.program_io.specs.declared.mode.Mode.TheVariants.{Check, Generate, Run}
use Rattle.program_io.specs.declared.mode.Settings.{Settings}
use Rattle.dump_top.specs.Words.{IsBarred, Text}
use Rattle.dump_top.proofs.Refusals.{refused_barred, refused_mode, refuses_here}
use Rattle.dump_top.proofs.words.read_dump_words.Goals as goal

not_run : (mode : Mode) → ((seed : ℕ) × (mode ≡ Generate seed)) ⊎ (mode ≡ Check) → mode ≡ Run → ⊥
not_run mode (inl generated) runs = let both : Generate generated.0 ≡ Run = sym generated.1 ∙ runs in cc
not_run mode (inr checked) runs = let both : Check ≡ Run = sym checked ∙ runs in cc

pub returns-then-names_barred-clause-refused : goal.returns-then-names_barred-clause-refused
returns-then-names_barred-clause-refused c =
    let words = c.args.words.now in
    let others : map string_bytes c.behind_first-others.result.now ≡ drop 1 (map string_bytes words) =
    ap (λ (ws : List (String Global)). map string_bytes ws) c.behind_first-others.ensures ∙ sym (drop-map string_bytes 1 words) in
    refuses_here c.refusal-then-names_barred.result (map string_bytes words) (refused_barred (map string_bytes words)
    (subst (λ (ws : List Text). Any IsBarred ws) others (c.names_barred.ensures.yes c.if-names_barred.true)))

pub returns-in-Generate : goal.returns-in-Generate
returns-in-Generate c =
    let words = c.args.words.now in
    let others : map string_bytes c.behind_first-others.result.now ≡ drop 1 (map string_bytes words) =
    ap (λ (ws : List (String Global)). map string_bytes ws) c.behind_first-others.ensures ∙ sym (drop-map string_bytes 1 words) in
    record {
      taken = tt;
      refused = refuses_here c.refusal-in-Generate.result (map string_bytes words)
          (refused_mode (map string_bytes words) (λ runs. not_run c.in-Ok.settings.mode c.in-Generate.is (ap (λ (s : Settings). s.mode) c.in-Ok.ensures.settings ∙ ap mode_of others ∙ runs)));
    }
