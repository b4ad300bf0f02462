use Rattle.std.proofs.Common.{◌≡◌, map, string_bytes, option_map, None, rules, sym, ◌∙◌, arith, add-one}
use Rattle.acg_words.specs.Settings.{pair_of}
use Rattle.acg_words.proofs.SettingsLemmas.{told-none, told-next}
use Rattle.acg_words.proofs.settings.read_settings.Goals as goal

pub returns-in_err-told : goal.returns-in_err-told
returns-in_err-told c =
    let none : option_map pair_of c.from_residual.result ≡ None = search rules in
    let all = c.args.settings.now in
    none ∙ sym (told-none all c.loop-setting.setting-index _ c.loop-setting.told.settings (map string_bytes c.loop-setting.told.behind.now)
    c.read_first.result _ (omega arith) c.read_first.ensures c.in_err-told.was c.loop-setting.invariant)

pub loop-setting-preserved : goal.loop-setting-preserved
loop-setting-preserved c =
    let all = c.args.settings.now in
    rw add-one (told-next all c.loop-setting.setting-index _ c.loop-setting.told.settings (map string_bytes c.loop-setting.told.behind.now)
    c.read_first.result c.in_ok-told.told _ (omega arith) c.read_first.ensures c.in_ok-told.was c.loop-setting.invariant)
