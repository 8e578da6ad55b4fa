-- Quarter frames in their order: what a generator sends, what a reader makes of whole sequences and streams. Assumes nothing.
pub mod HeardBytes
pub mod LabelNibbles
pub mod ReaderShapes
pub mod Sending
pub mod SequenceStarts
pub mod SoundCalls
pub mod SoundReaders
pub mod Streams
pub mod WholeSequences
