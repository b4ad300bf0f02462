use Rattle.std.proofs.Common.{◌≡◌, take, map, Some, vec_len}
use Rattle.rv_code.specs.Encode.{encode}
use Rattle.rv_asm.specs.Assembly.{total, spot, code_from}
use Rattle.rv_asm.proofs.assemble.words_of_items.Given as goal

abbrev pub invariant-loop-item : goal.invariant-loop-item
invariant-loop-item l = record {
  len : vec_len l.words ≡ total (take l.item-index l.items);
  words : map Some l.words.items ≡ map encode (code_from (spot l.items) 0 (take l.item-index l.items));
}
