-- A parameter block is an id and the content that its definition's shape says.
use Rattle.std.proofs.Common.{◌≡◌, ℕ, List, [], ◌++◌, Some, None, Result, Ok, Err, refl, ap, ◌∙◌}
use Rattle.std.specs.Prelude.{IfOk}
use Rattle.spec_bits.specs.Form.{Leb128}
use Rattle.spec_bits.specs.Bits.{Bits, all_bits}
use Rattle.spec_bits.specs.Cursor.{Cursor, field_at}
use Rattle.spec_syntax.specs.Syntax.{End}
use Rattle.spec_syntax.specs.Reading.{read, chain, start_of}
use Rattle.spec_syntax.specs.Payload.{Payload, IsValid, canon}
use Rattle.spec_syntax.proofs.Reading.{read_bind}
use Rattle.spec_blocks.specs.declared.fault.BlockFault.{BlockFault}
use Rattle.spec_blocks.specs.declared.fault.BlockFault.TheVariants as fault
use Rattle.spec_blocks.specs.Shape.{Shape, Definition, shape_of}
use Rattle.spec_blocks.specs.ParameterBlock.{ContentFields, Opaque, BlockFields, content_of, parameter_block}
use Rattle.spec_blocks.specs.BlockFieldLists.{block_fields}
use Rattle.spec_blocks.proofs.BlockFields.{block_syntax}
use Rattle.iamf_bits.specs.declared.unread.Unread.{Unread}
use Rattle.iamf_bits.specs.declared.unread.Unread.TheVariants.{Fault, Memory}
use Rattle.obu_data.specs.declared.parameter_block.BlockContent.{BlockContent}
use Rattle.obu_data.specs.declared.parameter_block.BlockContent.TheVariants as content
use Rattle.obu_data.specs.declared.parameter_block.ParameterBlock.{ParameterBlock}
use Rattle.spec_syntax.specs.Fitting.{AllFit}
use Rattle.spec_syntax.proofs.Fitting.{stands_fit}
use Rattle.spec_syntax.proofs.PayloadLaws.{payload_read}
use Rattle.iamf_bits.specs.Outcome.{ReadsPart}
use Rattle.obu_data.specs.BlockView.{view_content, view_block, bytes_after, opaque_bytes, IsKnown}
use Rattle.obu_data.specs.BlockReading.{ReadsBlock, SpellsBlock}

pub known_bytes : (c : BlockContent) → IsKnown c → opaque_bytes c ≡ []
known_bytes (content.Opaque bytes) known = absurd known
known_bytes (content.Gain timing parts) known = refl
known_bytes (content.Demix mode) known = refl
known_bytes (content.Recon layers) known = refl

block_part : (definitions : List Definition) (c next : Cursor) (id : ℕ) (r : Result (ContentFields × Cursor) BlockFault) → field_at Leb128 c ≡ Ok (id, next) → read (λ f. fault.Field f) (content_of (shape_of definitions id)) next ≡ r
    → read (λ f. fault.Field f) (parameter_block definitions) c ≡ chain r (λ x. Ok (record { parameter_id = id; content = x.0 }, x.1))
unfolding parameter_block
block_part definitions c next id r e e1 =
    rw e (read_bind (λ f. fault.Field f) (content_of (shape_of definitions id)) (λ content. End (record { parameter_id = id; content = content })) next
    ∙ ap (λ (q : Result (ContentFields × Cursor) BlockFault). chain q (λ x. Ok (record { parameter_id = id; content = x.0 }, x.1))) e1)

pub block_reads : (definitions : List Definition) (c next last : Cursor) (id : ℕ) (shape : Shape) (content : ContentFields) → field_at Leb128 c ≡ Ok (id, next) → shape_of definitions id ≡ Some shape
    → read (λ f. fault.Field f) (content_of (Some shape)) next ≡ Ok (content, last)
    → read (λ f. fault.Field f) (parameter_block definitions) c ≡ Ok (record { parameter_id = id; content = content }, last)
block_reads definitions c next last id shape content e found e1 = block_part definitions c next id (Ok (content, last)) e (rw found e1)

pub block_opaque : (definitions : List Definition) (c next : Cursor) (id : ℕ) → field_at Leb128 c ≡ Ok (id, next) → shape_of definitions id ≡ None
    → read (λ f. fault.Field f) (parameter_block definitions) c ≡ Ok (record { parameter_id = id; content = Opaque }, next)
block_opaque definitions c next id e none = block_part definitions c next id (Ok (Opaque, next)) e (rw none refl)

pub block_fails : (definitions : List Definition) (c next new : Cursor) (id : ℕ) (shape : Shape) (error : Unread BlockFault) → field_at Leb128 c ≡ Ok (id, next) → shape_of definitions id ≡ Some shape
    → ReadsPart view_content (Err error) new (read (λ f. fault.Field f) (content_of (Some shape)) next) → ReadsBlock (Err error) (read (λ f. fault.Field f) (parameter_block definitions) c)
block_fails definitions c next new id shape (Fault f) e found e1 = block_part definitions c next id (Err f) e (rw found e1)
block_fails definitions c next new id shape (Memory a) e found e1 = tt

pub block_spells : (definitions : List Definition) (payload : List ℕ) (r : Result ParameterBlock (Unread BlockFault)) → ReadsBlock r (read (λ f. fault.Field f) (parameter_block definitions) (start_of payload)) → SpellsBlock definitions payload r
block_spells definitions payload (Ok block) h = payload_read (block_syntax definitions) payload (view_block block) h.0 (all_bits (bytes_after block)) h.1 h.2
block_spells definitions payload (Err (Fault f)) h = (block_syntax definitions).reading.fails payload f h
block_spells definitions payload (Err (Memory a)) h = tt

pub block_valid : (definitions : List Definition) (payload : List ℕ) (r : Result ParameterBlock (Unread BlockFault)) → ReadsBlock r (read (λ f. fault.Field f) (parameter_block definitions) (start_of payload))
    → IfOk r (λ block. IsValid (parameter_block definitions) block_fields (view_block block))
block_valid definitions payload (Ok block) h = let p = block_spells definitions payload (Ok block) h in (block_syntax definitions).valid _ (view_block block) p.spelling p.stands
block_valid definitions payload (Err e) h = tt

-- ---- what is written

pub block_back : (definitions : List Definition) (block : BlockFields) (tail bits : Bits) → IsValid (parameter_block definitions) block_fields block → bits ≡ canon (block_fields block) ++ tail
    → Payload (parameter_block definitions) (block_fields block) block tail bits
block_back definitions block tail bits valid e = rw e ((block_syntax definitions).back block tail valid)

pub block_fits : (definitions : List Definition) (block : BlockFields) → IsValid (parameter_block definitions) block_fields block → AllFit (block_fields block)
block_fits definitions block valid = stands_fit (parameter_block definitions) [] (block_fields block) block (canon (block_fields block)) valid
